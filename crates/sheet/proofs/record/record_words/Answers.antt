-- `record_words` meets its contract: no such record, or the part where there is one.
use mathlib.Core.Path.{refl, ap, ◌∙◌}
use mathlib.Core.List.{List}
use Prim.Native.Nat.{ℕ}
use Rattle.std.specs.Borrow.{Bor}
use Rattle.sheet.proofs.LaidLaws.{no_record, part_got}
use Rattle.sheet.proofs.record.record_words.Goals as goal

pub returns-then-i-ge-RECORDS : goal.returns-then-i-ge-RECORDS
returns-then-i-ge-RECORDS c =
    record { answer = no_record c.args.words.now c.args.ends c.args.i c.if-i-ge-RECORDS.true }

pub returns : goal.returns
returns c = record {
  answer = ap (λ (x : Bor (List ℕ)). x.now) c.unwrap_or.ensures
      ∙ part_got c.args.words.now c.args.ends c.args.i c.if-i-ge-RECORDS.false c.start_of.ensures c.get.result _ refl
      c.get.ensures.lookup.0;
}
