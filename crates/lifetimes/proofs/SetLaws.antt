-- Laws of specs/Sets.antt, over plain values. In order: membership and one member more, union, the members in ascending
-- order, how many, the set of a list.
use Prim.Native.Nat.{ℕ, zero, suc, ◌+◌, ◌-◌, ◌/◌, ◌%◌, ◌^◌, ◌≤◌, ◌<◌}
use mathlib.Core.Bool.{Bool, true, false, cond, ◌||◌, true≢false, false≢true}
use mathlib.Core.Logic.{◌⊎◌, inl, inr, ⊎_elim, ◌↔◌}
use mathlib.Core.Path.{◌≡◌, refl, sym, ap, ◌∙◌}
use mathlib.Core.List.Memᴰ
use mathlib.Core.List.{List, [], ◌∷◌, ◌++◌, Memᴰ}
use mathlib.Core.List.{Pairwise}
use native.Mathlib.Nat.{zero-div, div-one, div_self, div-eq_of_lt, div-div-eq-div-mul, mul-mod_left, pow-suc, pow-succ'}
use native.Mathlib.Nat.{lt_of_lt_of_le}
use native.Mathlib.Decide.{dec_lt, ℕ_discrete}
use native.Mathlib.Numerals.{add-one}
use native.Mathlib.Omega.{arith}
use lib.Dec.{eqb}
use lib.ListN.{length}
use lib.Pow.{pow_pos, pow-lt, pow_mono, pow-add, shl-shr, shr_lt}
use lib.Bits.{bit_or, or_shr, or_mod, or_zero_r}
use lib.Count.{ones, ones_step, ones-le}
use Rattle.answers.specs.Lists.{range, filter}
use Rattle.answers.proofs.ListLaws.{length_range, range_has, range_pairwise, filter_has, filter_few, filter_agree}
use Rattle.answers.proofs.ListLaws.{filter_pairwise}
use Rattle.lifetimes.specs.Sets.{member, insert, union, members, cardinality, insert_all, set_of}

-- ---- membership, and one member more

pub member_empty : (x : ℕ) → member 0 x ≡ false
unfolding member
member_empty x = rw zero-div

-- bit y of the number whose one bit is x
bit_same : (x : ℕ) → 2 ^ x / 2 ^ x % 2 ≡ 1
bit_same x = rw (div_self (pow_pos x))

bit_other : (x y : ℕ) → (x ≡ y → ⊥) → 2 ^ x / 2 ^ y % 2 ≡ 0
bit_other x y h = elim (dec_lt x y) [ yes l ↦ rw (div-eq_of_lt (pow-lt l)) | no g ↦ above (x - (y + 1)) (omega arith) ]
  where
    above : (k : ℕ) → x ≡ suc k + y → 2 ^ x / 2 ^ y % 2 ≡ 0
    above k e = rw (e, pow-add 2 (suc k) y, shl-shr (2 ^ suc k) y, pow-suc 2 k) (mul-mod_left (2 ^ k) 2)

bit_or_lem : (s t x : ℕ) → bit_or s t / 2 ^ x % 2 ≡ bit_or (s / 2 ^ x % 2) (t / 2 ^ x % 2)
bit_or_lem s t x = rw or_shr (or_mod (s / 2 ^ x) (t / 2 ^ x) 1)

or_one : (a : ℕ) → a < 2 → bit_or a 1 ≡ 1
or_one zero h = refl
or_one (suc zero) h = refl
or_one (suc (suc n)) h = absurd (omega arith)

pub member_insert_same : (s x : ℕ) → member (insert s x) x ≡ true
unfolding member insert
member_insert_same s x = rw (bit_or_lem s (2 ^ x) x, bit_same x, or_one (s / 2 ^ x % 2) (omega arith))

pub member_insert_other : (s x y : ℕ) → (x ≡ y → ⊥) → member (insert s x) y ≡ member s y
unfolding member insert
member_insert_other s x y h = rw (bit_or_lem s (2 ^ x) y, bit_other x y h, or_zero_r (s / 2 ^ y % 2))

-- what a test of a set with one member more says of the set
pub member_insert_true : (s x y : ℕ) → member (insert s x) y ≡ true → (x ≡ y) ⊎ (member s y ≡ true)
member_insert_true s x y h = elim (ℕ_discrete x y) [ yes e ↦ inl e | no n ↦ inr (sym (member_insert_other s x y n) ∙ h) ]

pub member_insert_false : (s x y : ℕ) → member (insert s x) y ≡ false → (x ≡ y → ⊥) × (member s y ≡ false)
member_insert_false s x y h = (apart, sym (member_insert_other s x y apart) ∙ h)
  where
    apart : x ≡ y → ⊥
    apart e = true≢false (sym (member_insert_same s x) ∙ ap (member (insert s x)) e ∙ h)

-- a member stays one
pub member_insert_keeps : (s x y : ℕ) → member s y ≡ true → member (insert s x) y ≡ true
member_insert_keeps s x y h =
    elim (ℕ_discrete x y)
    [ yes e ↦ ap (member (insert s x)) (sym e) ∙ member_insert_same s x | no n ↦ member_insert_other s x y n ∙ h ]

-- a set of w bits has no member from w on
pub member_past : (w s x : ℕ) → s < 2 ^ w → w ≤ x → member s x ≡ false
unfolding member
member_past w s x hs hx = rw (div-eq_of_lt (lt_of_lt_of_le hs (pow_mono hx)))

-- bit 0, and the bits above it
member_zero : (s : ℕ) → member s 0 ≡ eqb (s % 2) 1
unfolding member
member_zero s = rw (div-one s)

member_suc : (s x : ℕ) → member s (suc x) ≡ member (s / 2) x
unfolding member
member_suc s x = rw (pow-succ' 2 x, ← div-div-eq-div-mul s 2 (2 ^ x))

half_lt : (w s : ℕ) → s < 2 ^ suc w → s / 2 < 2 ^ w
half_lt w s h = shr_lt w 1 (rw (add-one w) h)

-- ---- union

pub member_union : (s t x : ℕ) → member (union s t) x ≡ member s x || member t x
unfolding member union
member_union s t x = rw (bit_or_lem s t x) (digits (s / 2 ^ x % 2) (t / 2 ^ x % 2) (omega arith) (omega arith))
  where
    digits : (a b : ℕ) → a < 2 → b < 2 → eqb (bit_or a b) 1 ≡ eqb a 1 || eqb b 1
    digits zero zero h k = refl
    digits zero (suc zero) h k = refl
    digits zero (suc (suc b)) h k = absurd (omega arith)
    digits (suc zero) zero h k = refl
    digits (suc zero) (suc zero) h k = refl
    digits (suc zero) (suc (suc b)) h k = absurd (omega arith)
    digits (suc (suc a)) b h k = absurd (omega arith)

-- ---- the members in ascending order

pub members_has : (s x : ℕ) → Memᴰ x (members s) ↔ ((x < 64) × (member s x ≡ true))
unfolding members
members_has s x =
    let tested = filter_has (member s) (range 0 64) x in
    let row = range_has 0 64 x in
    (λ m. let (k, e) = tested.0 m in let r = row.0 k in (omega arith, e), λ h. tested.1 (row.1 (omega arith, omega arith), h.1))

-- each is less than those after it
pub members_ascending : (s : ℕ) → Pairwise ◌<◌ (members s)
unfolding members
members_ascending s = filter_pairwise (member s) (range_pairwise 0 64)

pub members_few : (s : ℕ) → length (members s) ≤ 64
unfolding members
members_few s = omega (arith, filter_few (member s) (range 0 64), length_range 0 64)

-- ---- how many

-- one member more, counted over a row that has it once
insert_before : (s x y n : ℕ) → x < y → filter (member (insert s x)) (range y n) ≡ filter (member s) (range y n)
insert_before s x y n h =
    filter_agree (member (insert s x)) (member s) (range y n)
    (λ z m. let r = (range_has y n z).0 m in member_insert_other s x z (λ e. omega arith))

insert_within : (s x y n : ℕ) → member s x ≡ false → y ≤ x → x < y + n
    → length (filter (member (insert s x)) (range y n)) ≡ length (filter (member s) (range y n)) + 1
unfolding range filter
insert_within s x y zero m h k = absurd (omega arith)
insert_within s x y (suc n) m h k = go (ℕ_discrete x y) (insert_within s x (suc y) n m)
  where
    both : (t : Bool) (l l' : List ℕ) → length l ≡ length l' + 1 → length (cond t (y ∷ l) l) ≡ length (cond t (y ∷ l') l') + 1
    both true l l' r = omega arith
    both false l l' r = r

    go : Dec (x ≡ y)
        → (suc y ≤ x → x < suc y + n → length (filter (member (insert s x)) (range (suc y) n))
        ≡ length (filter (member s) (range (suc y) n)) + 1)
        → length (cond (member (insert s x) y) (y ∷ filter (member (insert s x)) (range (suc y) n))
        (filter (member (insert s x)) (range (suc y) n)))
        ≡ length (cond (member s y) (y ∷ filter (member s) (range (suc y) n)) (filter (member s) (range (suc y) n))) + 1
    go (yes e) r = rw (← e, member_insert_same s x, m, insert_before s x (suc x) n (omega arith)) (omega arith)
    go (no a) r =
        rw (member_insert_other s x y a)
        (both (member s y) (filter (member (insert s x)) (range (suc y) n))
        (filter (member s) (range (suc y) n)) (r (omega arith) (omega arith)))

pub count_empty : cardinality 0 ≡ 0
unfolding cardinality members filter range member
count_empty = refl

pub count_insert : (s x : ℕ) → x < 64 → member s x ≡ false → cardinality (insert s x) ≡ cardinality s + 1
unfolding cardinality members
count_insert s x h m = insert_within s x 0 64 m (omega arith) (omega arith)

-- a row's numbers one higher, with a test that looks one lower
select_shift : (f g : ℕ → Bool) (x n : ℕ) → ((y : ℕ) → f (suc y) ≡ g y)
    → length (filter f (range (suc x) n)) ≡ length (filter g (range x n))
unfolding range filter
select_shift f g x zero h = refl
select_shift f g x (suc n) h = rw (h x) (go (g x) (select_shift f g (suc x) n h))
  where
    go : (t : Bool) → length (filter f (range (suc (suc x)) n)) ≡ length (filter g (range (suc x) n))
        → length (cond t (suc x ∷ filter f (range (suc (suc x)) n)) (filter f (range (suc (suc x)) n)))
        ≡ length (cond t (x ∷ filter g (range (suc x) n)) (filter g (range (suc x) n)))
    go true r = ap suc r
    go false r = r

ones_row : (w s : ℕ) → s < 2 ^ w → ones s ≡ length (filter (member s) (range 0 w))
unfolding range filter
ones_row zero s h = omega (arith, ones-le 0 s h)
ones_row (suc w) s h =
    rw (ones_step s, member_zero s, ones_row w (s / 2) (half_lt w s h), ← select_shift (member s) (member (s / 2)) 0 w (member_suc s))
    (digit (s % 2) (filter (member s) (range 1 w)) (omega arith))
  where
    digit : (a : ℕ) (l : List ℕ) → a < 2 → a + length l ≡ length (cond (eqb a 1) (0 ∷ l) l)
    digit zero l k = omega arith
    digit (suc zero) l k = omega arith
    digit (suc (suc a)) l k = absurd (omega arith)

pub count_ones : (s : ℕ) → s < 2 ^ 64 → ones s ≡ cardinality s
unfolding cardinality members
count_ones s h = ones_row 64 s h

-- ---- the set of a list

pub insert_all_has : (s : ℕ) (l : List ℕ) (x : ℕ) → (member (insert_all s l) x ≡ true) ↔ ((member s x ≡ true) ⊎ Memᴰ x l)
unfolding insert_all
insert_all_has s [] x = (λ h. inl h, ⊎_elim (λ h. h) (λ m. absurd (Memᴰ.not-nil m)))
insert_all_has s (y ∷ l) x =
    let rest = insert_all_has (insert s y) l x in (
      λ h. ⊎_elim (λ k. ⊎_elim (λ e. inr (Memᴰ.head (sym e))) (λ i. inl i) (member_insert_true s y x k))
          (λ m. inr (Memᴰ.tail m)) (rest.0 h),
      ⊎_elim
          (λ h. rest.1 (inl (member_insert_keeps s y x h)))
          (λ m. ⊎_elim (λ e. rest.1 (inl (ap (member (insert s y)) e ∙ member_insert_same s y))) (λ k. rest.1 (inr k))
          (Memᴰ.cases_cons m)),
    )

pub set_of_has : (l : List ℕ) (x : ℕ) → (member (set_of l) x ≡ true) ↔ Memᴰ x l
set_of_has l x =
    let all = insert_all_has 0 l x in
    (λ h. ⊎_elim (λ k. absurd (false≢true (sym (member_empty x) ∙ k))) (λ m. m) (all.0 h), λ m. all.1 (inr m))

-- one that is put in is at most one more, and the set of a list has at most as many as stand in the list
insert_same : (s x : ℕ) → ((y : ℕ) → y < 64 → x ≡ y → member s y ≡ true) → cardinality (insert s x) ≡ cardinality s
unfolding cardinality members
insert_same s x h =
    ap length (filter_agree (member (insert s x)) (member s) (range 0 64)
    (λ y m. go y ((range_has 0 64 y).0 m).1 (ℕ_discrete x y)))
  where
    go : (y : ℕ) → y < 64 → Dec (x ≡ y) → member (insert s x) y ≡ member s y
    go y l (yes e) = member_insert_keeps s x y (h y l e) ∙ sym (h y l e)
    go y l (no a) = member_insert_other s x y a

count_put : (s x : ℕ) → cardinality (insert s x) ≤ cardinality s + 1
count_put s x = go (member s x) refl (dec_lt x 64)
  where
    go : (b : Bool) → member s x ≡ b → Dec (x < 64) → cardinality (insert s x) ≤ cardinality s + 1
    go true e d = omega (arith, insert_same s x (λ y l q. rw q at e))
    go false e (yes l) = omega (arith, count_insert s x l e)
    go false e (no a) = omega (arith, insert_same s x (λ y l q. absurd (omega (arith, a))))

insert_all_few : (s : ℕ) (l : List ℕ) → cardinality (insert_all s l) ≤ cardinality s + length l
unfolding insert_all
insert_all_few s [] = omega arith
insert_all_few s (x ∷ l) = omega (arith, insert_all_few (insert s x) l, count_put s x)

pub set_of_few : (l : List ℕ) → cardinality (set_of l) ≤ length l
set_of_few l = omega (arith, insert_all_few 0 l, count_empty)

pub insert_all_append : (s : ℕ) (l m : List ℕ) → insert_all s (l ++ m) ≡ insert_all (insert_all s l) m
unfolding insert_all
insert_all_append s [] m = refl
insert_all_append s (x ∷ l) m = insert_all_append (insert s x) l m
