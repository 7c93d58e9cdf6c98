-- Lists of lifetimes in 16 places: an array filled from its front, and the loop of `first_of`.
use Prim.Native.Nat.{ℕ, suc, ◌+◌, ◌-◌, min, ◌<◌}
use mathlib.Core.Path.{◌≡◌, refl, sym, ap, ◌∙◌}
use mathlib.Core.List.{List, [], ◌∷◌, ◌++◌, map}
use native.Mathlib.Omega.{arith}
use lib.ListN.{length, take, set, replicate, length-append, length-map}
use lib.Seq.{set_at, length-take-le}
use Rattle.elision.specs.Rfc.{MethodLifetime}
use Rattle.lifetimes.specs.declared.maybe_static.MaybeStatic.TheVariants.{Static}
use Rattle.elision.specs.declared.lowerer.Lowered.{Lowered}
use Rattle.elision.specs.declared.lowerer.Lifetimes.{Lifetimes}
use Rattle.elision.specs.Machine.{lowered, laid}
use Rattle.elision.proofs.RfcLaws.{length_lowered}

-- the first places hold these lifetimes, the others a static one
pub record Filled (done : List MethodLifetime) (list : List Lowered) (i : ℕ) : Type 0 where
  pub size : length done ≡ i
  pub stands : list ≡ map lowered done ++ replicate (16 - i) (lowered Static)

lowered_last : (ls : List MethodLifetime) (l : MethodLifetime) (rest : List Lowered)
    → map lowered (ls ++ (l ∷ [])) ++ rest ≡ map lowered ls ++ lowered l ∷ rest
lowered_last [] l rest = refl
lowered_last (m ∷ ls) l rest = ap (λ (x : List Lowered). lowered m ∷ x) (lowered_last ls l rest)

module _ {done : List MethodLifetime} {list : List Lowered} {i : ℕ} (inv : Filled done list i) where
  pub filled_more : i < 16 → (l : MethodLifetime) → Filled (done ++ (l ∷ [])) (set list i (lowered l)) (i + 1)
  filled_more h l =
      let a : 16 - i ≡ suc (15 - i) = omega arith in
      let b : 16 - (i + 1) ≡ 15 - i = omega arith in
      record {
        size = length-append done (l ∷ []) ∙ ap (λ (n : ℕ). n + 1) inv.size;
        stands = rw (inv.stands, a, b, lowered_last done l (replicate (15 - i) (lowered Static)))
            (set_at (map lowered done) (lowered Static) (replicate (15 - i) (lowered Static)) (lowered l) i
            (length_lowered done ∙ inv.size));
      }

  filled_laid : record { n = i; list = list } ≡ laid done
  unfolding laid
  filled_laid = rw (inv.size, inv.stands)

-- one lifetime more, behind those of a list
pub pushed : {n : ℕ} {list : List Lowered} (ls : List MethodLifetime) (l : MethodLifetime) → n < 16
    → record { n = n; list = list } ≡ laid ls
    → record { n = n + 1; list = set list n (lowered l) } ≡ laid (ls ++ (l ∷ []))
unfolding laid
pushed {n} {list} ls l h e =
    let size : length ls ≡ n = sym (ap (λ (x : Lifetimes). x.n) e) in
    let stands : list ≡ map lowered ls ++ replicate (16 - length ls) (lowered Static) = ap (λ (x : Lifetimes). x.list) e in
    let inv : Filled ls list n = record { size = size; stands = rw size at stands } in
    filled_laid (filled_more inv h l)

-- how many there are
pub laid_many : {own : Lifetimes} (ls : List MethodLifetime) → own ≡ laid ls → own.n ≡ length ls
unfolding laid
laid_many ls e = ap (λ (x : Lifetimes). x.n) e

-- ---- the loop of `first_of`

abbrev lifetimes_in : List Lowered → List MethodLifetime
lifetimes_in l = map (λ (x : Lowered). x.lifetime) l

-- the lifetimes of the first places
pub record Firsts (own first : Lifetimes) (i : ℕ) : Type 0 where
  pub laid_so : first ≡ laid (lifetimes_in (take i own.list))

module _ {own first : Lifetimes} {i : ℕ} (full : length own.list ≡ 16) (inv : Firsts own first i) where
  pub firsts_room : {n : ℕ} → n ≡ min own.n 16 → i < n → first.n < 16
  firsts_room m h =
      let many : length (lifetimes_in (take i own.list)) ≡ i =
      length-map (take i own.list) (λ (x : Lowered). x.lifetime) ∙ length-take-le i own.list (omega (arith, full)) in
      omega (arith, laid_many (lifetimes_in (take i own.list)) inv.laid_so, many)
