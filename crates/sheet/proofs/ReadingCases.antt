-- Reading by its three cases: no sheet, few words, too many.
use Prim.Native.Nat.{ℕ, ◌≤◌}
use mathlib.Core.Logic.{inl, inr}
use mathlib.Core.Path.{◌≡◌, subst}
use mathlib.Core.List.{List, Memᴰ}
use native.Mathlib.Omega.{arith}
use lib.ListN.{length}
use Rattle.records.specs.Reading.{most_words}
use Rattle.sheet.specs.Text.{Records, lists}
use Rattle.sheet.specs.Theorems.{IsSheet, ReadsBack}
use Rattle.sheet.proofs.SheetLaws.{Read, NoSheet, Few, Many, read_cases, one_sheet, few_all, many_some}

by_cases : (bytes : List ℕ) → Read bytes → ReadsBack bytes
by_cases bytes (NoSheet e n) = record {
  given = λ r. (λ g. let z : ◌≡◌ {A = ℕ} 0 1 = cc in absurd (omega arith), λ s. absurd (n r s.0));
  unreadable = (λ g. n, λ g. e);
  malformed = (λ g. let z : ◌≡◌ {A = ℕ} 0 1 = cc in absurd (omega arith), λ s. absurd (n s.0 s.1));
  refusals = λ k g. inl (cc);
}
by_cases bytes (Few r e s f) = record {
  given = λ q. (
    λ g. let h : r ≡ q = cc in
        subst (λ (x : Records). IsSheet bytes x × ((l : List ℕ) → Memᴰ l (lists x) → length l ≤ most_words)) h
        (s, few_all (lists r) f),
    λ p. let h : r ≡ q = one_sheet s p.0 in cc,
  );
  unreadable = (λ g. let z : ◌≡◌ {A = ℕ} 0 1 = cc in absurd (omega arith), λ n. absurd (n r s));
  malformed = (
    λ g. let z : ◌≡◌ {A = ℕ} 0 1 = cc in absurd (omega arith),
    λ p. let h : p.0 ≡ r = one_sheet p.1 s in
        absurd
        (omega
        (arith, few_all (lists r) f p.2.0 (subst (λ (x : Records). Memᴰ p.2.0 (lists x)) h p.2.1))),
  );
  refusals = λ k g. let z : ◌≡◌ {A = ℕ} 0 1 = cc in absurd (omega arith);
}
by_cases bytes (Many r e s f) = record {
  given = λ q. (
    λ g. let z : ◌≡◌ {A = ℕ} 0 1 = cc in absurd (omega arith),
    λ p. let h : r ≡ q = one_sheet s p.0 in
        let k = many_some (lists r) f in
        absurd (omega (arith, p.1 k.0 (subst (λ (x : Records). Memᴰ k.0 (lists x)) h k.1), k.2)),
  );
  unreadable = (λ g. let z : ◌≡◌ {A = ℕ} 0 1 = cc in absurd (omega arith), λ n. absurd (n r s));
  malformed = (λ g. (r, s, many_some (lists r) f), λ g. e);
  refusals = λ k g. inr (cc);
}

pub reads_back : (bytes : List ℕ) → ReadsBack bytes
reads_back bytes = by_cases bytes (read_cases bytes)
