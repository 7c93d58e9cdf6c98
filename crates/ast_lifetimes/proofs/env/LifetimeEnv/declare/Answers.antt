-- `declare` meets its contract: a 33rd, one that is declared, or one more.
use mathlib.Core.Path.{sym, ◌∙◌}
use Rattle.ast_lifetimes.proofs.NamesLaws.{number_is_some}
use Rattle.ast_lifetimes.proofs.StandsLaws.{declare_full, declare_again, declare_given}
use Rattle.ast_lifetimes.proofs.env.LifetimeEnv.declare.Goals as goal

pub returns-then-named-ge-MAX_NAMES : goal.returns-then-named-ge-MAX_NAMES
returns-then-named-ge-MAX_NAMES c = declare_full c.requires c.args.name c.if-named-ge-MAX_NAMES.true

pub returns-then-is_some : goal.returns-then-is_some
returns-then-is_some c = declare_again c.requires c.args.name c.if-named-ge-MAX_NAMES.false
    (sym (number_is_some _ _ c.id.ensures) ∙ sym c.is_some.ensures ∙ c.if-is_some.true)

pub returns : goal.returns
returns c = declare_given c.requires c.args.name c.if-named-ge-MAX_NAMES.false
    (sym (number_is_some _ _ c.id.ensures) ∙ sym c.is_some.ensures ∙ c.if-is_some.false)
