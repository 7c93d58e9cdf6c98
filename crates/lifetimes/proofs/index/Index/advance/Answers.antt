-- `advance` meets its contract: each turn passes over an entry that was seen, or takes the stack's last chain.
use Prim.Native.Nat.{◌-◌}
use mathlib.Core.Path.{sym, ap, ◌∙◌}
use native.Mathlib.Omega.{arith}
use Rattle.lifetimes.specs.declared.lifetime.Lifetime.{Lifetime}
use Rattle.lifetimes.proofs.AdvanceLoops.{Skipping}
use Rattle.lifetimes.proofs.AdvanceLoops.{skipping_pop, skipping_end, skipping_far, skipping_before, skipping_seen}
use Rattle.lifetimes.proofs.AdvanceLoops.{skipping_found}
use Rattle.lifetimes.proofs.index.Index.advance.Goals as goal

pub pending-preserved-then-at-eq0 : goal.pending-preserved-then-at-eq0
pending-preserved-then-at-eq0 c = λ g ch r.
    skipping_pop ch r (c.pending.invariant g ch r) c.if-at-eq0.true (c.pending.depth - 1) (omega arith)

pub holds-requires : goal.holds-requires
holds-requires c =
    let inv_of : Skipping c.requires.0 c.args.stack.now c.args.seen c.args.from
    c.args.deep c.pending.at c.pending.depth = c.pending.invariant c.requires.0 c.requires.1 c.requires.2 in
    skipping_far c.requires.1 c.requires.2 inv_of (c.pending.at - 1) (omega arith)

pub pending-smaller : goal.pending-smaller
pending-smaller c =
    let inv_of : Skipping c.requires.0 c.args.stack.now c.args.seen c.args.from
    c.args.deep c.pending.at c.pending.depth = c.pending.invariant c.requires.0 c.requires.1 c.requires.2 in
    omega (
      arith,
      skipping_before c.requires.1 c.requires.2 inv_of (c.pending.at - 1)
          (omega arith),
    )

pub pending-preserved : goal.pending-preserved
pending-preserved c = λ g ch r.
    skipping_seen ch r (c.pending.invariant g ch r) (c.pending.at - 1) (omega arith) (sym c.holds.ensures ∙
    c.if-not-holds.false)

pub returns-then-depth-eq0 : goal.returns-then-depth-eq0
returns-then-depth-eq0 c = λ g ch r. skipping_end ch r (c.pending.invariant g ch r) c.if-at-eq0.true
    c.if-depth-eq0.true

pub returns-then-not-holds : goal.returns-then-not-holds
returns-then-not-holds c = λ g ch r.
    skipping_found ch r (c.pending.invariant g ch r) (c.pending.at - 1) (omega arith)
    (sym c.holds.ensures ∙ c.if-not-holds.true) c.new.result
    (ap (λ (l : Lifetime). l.0) c.new.ensures.answer)
