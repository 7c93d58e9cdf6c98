-- Where a type's words stand follows from what is read, so that the answer of `type_at` tells it.
-- In order: the words of a type that is no option, of any type; where they, and its code, stand in a record.
use Rattle.std.specs.Prelude.{Option}
use Prim.Native.Nat.{ℕ, ◌+◌, ◌-◌, ◌≤◌, ◌<◌}
use mathlib.Core.Bool.{Bool, true, false, cond, ◌&&◌}
use mathlib.Core.Path.{◌≡◌, refl, sym, ap, subst, ◌∙◌}
use mathlib.Core.List.{List, [], ◌∷◌, ◌++◌, append_assoc}
use native.Mathlib.Omega.{arith}
use borrow.Author.Tests.{eqb-true, leb-true}
use lib.Dec.{eqb, leb}
use lib.ListN.{length, get_or, take, drop, length-append, length-drop, take-append-drop}
use lib.Seq.{length-take-le, take-append_seam, drop-append_seam, drop-drop, get_or-drop}
use Rattle.records.specs.Reading.{Reading, Read, Fails, read_lifetimes}
use Rattle.records.proofs.ReadingLaws.{Holds, read, fails, passed, holds_cond, holds_onward, WordIn, word_read}
use Rattle.hir_types.specs.declared.types.Parts.{Parts}
use Rattle.hir_types.specs.LoweredTypes.{LoweredType, read_flag, read_owner, read_opaque, read_struct, read_slice}
use Rattle.hir_types.specs.LoweredTypes.{read_bare, read_lowered, located}
use Rattle.hir_types.specs.Places.{Stands, Locates, locates, nowhere, code_of, Coded, CodedAt}

-- ---- the words of a type

-- one word, or some, and those behind them
abbrev One : List ℕ → List ℕ → Type 0
One words rest = (word : ℕ) × (word ∷ rest ≡ words)

abbrev Several : List ℕ → List ℕ → Type 0
Several words rest = (own : List ℕ) × (own ++ rest ≡ words)

-- path words: how many, at most 16, then they
record Path (words path rest : List ℕ) : Type 0 where
  few : length path ≤ 16
  whole : length path ∷ (path ++ rest) ≡ words

-- a type's own words; its path words start at a place among them, and three places before that its code is one of them
record Laid (from : ℕ) (words : List ℕ) (t : LoweredType) (rest : List ℕ) : Type 0 where
  own : List ℕ
  whole : own ++ rest ≡ words
  front : from - 3 < length own
  code : get_or words (from - 3) 0 ≡ code_of t.kind
  few : length t.path ≤ 16
  path : take (length t.path) (drop from words) ≡ t.path

flag_read : (words : List ℕ) → Holds (λ flag rest. One words rest) (read_flag words)
flag_read [] = fails
flag_read (word ∷ words) =
    holds_cond (λ flag rest. One (word ∷ words) rest) (eqb word 0) (λ e. read (word, refl))
    (holds_cond (λ flag rest. One (word ∷ words) rest) (eqb word 1) (λ e. read (word, refl)) fails)

owner_read : (borrowed : Bool) (words : List ℕ) → Holds (λ owner rest. Several words rest) (read_owner borrowed words)
owner_read false words = read ([], refl)
owner_read true words =
    holds_onward (WordIn words) (λ owner rest. Several words rest) (word_read words) (λ word rest p. read (word ∷ [], p))

path_read : (words : List ℕ) → Holds (Path words) (read_lifetimes words)
path_read [] = fails
path_read (n ∷ words) =
    holds_cond (Path (n ∷ words)) (leb n 16 && leb n (length words)) (λ e. read (stands (leb n 16) refl e)) fails
  where
    stands : (b : Bool) → leb n 16 ≡ b → (b && leb n (length words)) ≡ true
        → Path (n ∷ words) (take n words) (drop n words)
    stands false q e = passed e
    stands true q e =
        let size : length (take n words) ≡ n = length-take-le n words (leb-true n (length words) e) in
        record { few = rw size (leb-true n 16 q); whole = rw (size, take-append-drop n words) }

-- a code, and words without a path
pathless : (code : ℕ) {words end : List ℕ} (t : LoweredType) → code ≡ code_of t.kind → t.path ≡ [] → Several words end
    → Laid 3 (code ∷ words) t end
pathless code t k e s = record {
  own = code ∷ s.0;
  whole = ap (λ (l : List ℕ). code ∷ l) s.1;
  front = omega arith;
  code = k;
  few = rw e (omega arith);
  path = rw e;
}

-- a code, a word, path words, and some behind them
pathed : (code : ℕ) {words pathed behind end : List ℕ} (t : LoweredType) → code ≡ code_of t.kind → One words pathed
    → Path pathed t.path behind → Several behind end → Laid 3 (code ∷ words) t end
pathed code {behind = behind} {end} t k w p s = record {
  own = code ∷ w.0 ∷ length t.path ∷ (t.path ++ s.0);
  whole = rw (append_assoc t.path s.0 end, s.1, p.whole, w.1);
  front = omega arith;
  code = k;
  few = p.few;
  path = rw (← w.1, ← p.whole) (take-append_seam t.path behind);
}

-- a type that is no option, under one or not
abbrev Bare : Bool → List ℕ → LoweredType → List ℕ → Type 0
Bare option words t rest = (t.option ≡ option) × Laid 3 words t rest

module _ (option : Bool) (code : ℕ) where
  opaque_laid : code ≡ 1 → (words : List ℕ) → Holds (Bare option (code ∷ words)) (read_opaque option words)
  unfolding read_opaque
  opaque_laid k words =
      holds_onward (λ flag rest. One words rest) (Bare option (code ∷ words)) (flag_read words)
      (λ flag r₁ f. holds_onward (Path r₁) (Bare option (code ∷ words)) (path_read r₁)
      (λ path r₂ p. holds_onward (λ borrowed rest. One r₂ rest) (Bare option (code ∷ words)) (flag_read r₂)
      (λ borrowed r₃ b. holds_onward (λ owner rest. Several r₃ rest) (Bare option (code ∷ words)) (owner_read borrowed r₃)
      (λ owner end o. read (refl, pathed code _ k f p (b.0 ∷ o.0, rw o.1 b.1))))))

  struct_laid : code ≡ 2 → (words : List ℕ) → Holds (Bare option (code ∷ words)) (read_struct option words)
  unfolding read_struct
  struct_laid k words =
      holds_onward (WordIn words) (Bare option (code ∷ words)) (word_read words)
      (λ row r₁ f. holds_onward (Path r₁) (Bare option (code ∷ words)) (path_read r₁)
      (λ path end p. read (refl, pathed code _ k (row, f) p ([], refl))))

  slice_laid : code ≡ 3 → (words : List ℕ) → Holds (Bare option (code ∷ words)) (read_slice option words)
  unfolding read_slice
  slice_laid k [] = fails
  slice_laid k (kind ∷ words) =
      holds_cond (Bare option (code ∷ kind ∷ words)) (eqb kind 0) (λ e. read (refl, pathless code _ k refl (kind ∷ [], refl)))
      (holds_cond (Bare option (code ∷ kind ∷ words)) (eqb kind 1)
      (λ e. holds_onward (WordIn words) (Bare option (code ∷ kind ∷ words)) (word_read words)
      (λ word end p. read (refl, pathless code _ k refl (kind ∷ word ∷ [], ap (λ (l : List ℕ). kind ∷ l) p))))
      (holds_cond (Bare option (code ∷ kind ∷ words)) (eqb kind 2) (λ e. read (refl, pathless code _ k refl (kind ∷ [], refl)))
      (holds_cond (Bare option (code ∷ kind ∷ words)) (eqb kind 3)
      (λ e. holds_onward (Path words) (Bare option (code ∷ kind ∷ words)) (path_read words)
      (λ path rest p. holds_onward (WordIn rest) (Bare option (code ∷ kind ∷ words)) (word_read rest)
      (λ word end q. read (refl, pathed code _ k (kind, refl) p (word ∷ [], q)))))
      fails)))

bare_laid : (option : Bool) (words : List ℕ) → Holds (Bare option words) (read_bare option words)
unfolding read_bare
bare_laid option [] = fails
bare_laid option (code ∷ words) =
    holds_cond (Bare option (code ∷ words)) (eqb code 0)
    (λ e. read (refl, pathless code _ (eqb-true code 0 e) refl ([], refl)))
    (holds_cond (Bare option (code ∷ words)) (eqb code 1) (λ e. opaque_laid option code (eqb-true code 1 e) words)
    (holds_cond (Bare option (code ∷ words)) (eqb code 2) (λ e. struct_laid option code (eqb-true code 2 e) words)
    (holds_cond (Bare option (code ∷ words)) (eqb code 3) (λ e. slice_laid option code (eqb-true code 3 e) words)
    fails)))

-- any type: the path words stand one place further on under an option
abbrev Any : List ℕ → LoweredType → List ℕ → Type 0
Any words t rest = Laid (cond t.option 4 3) words t rest

holds_more : {A : Type 0} {P Q : A → List ℕ → Type 0} → ((a : A) (rest : List ℕ) → P a rest → Q a rest)
    → {r : Reading A} → Holds P r → Holds Q r
holds_more f (read p) = read (f _ _ p)
holds_more f fails = fails

type_laid : (words : List ℕ) → Holds (Any words) (read_lowered words)
unfolding read_lowered
type_laid [] = fails
type_laid (code ∷ words) =
    holds_cond (Any (code ∷ words)) (eqb code 4)
    (λ e. holds_more
    (λ t rest b. record {
      own = code ∷ b.1.own;
      whole = ap (λ (l : List ℕ). code ∷ l) b.1.whole;
      front = rw b.0 (omega (arith, b.1.front));
      code = rw b.0 b.1.code;
      few = b.1.few;
      path = rw b.0 b.1.path;
    })
    (bare_laid true words))
    (holds_more
    (λ t rest b. subst (λ (o : Bool). Laid (cond o 4 3) (code ∷ words) t rest) (sym b.0) b.1)
    (bare_laid false (code ∷ words)))

-- the path words are at most 16
pub type_few : (words : List ℕ) → Holds (λ t rest. length t.path ≤ 16) (read_lowered words)
type_few words = holds_more (λ t rest h. h.few) (type_laid words)

-- ---- where they stand

-- the parts of a type that was read at a place
abbrev parts_of : ℕ → ℕ → LoweredType → List ℕ → Parts
parts_of at n t rest = record {
  option = t.option;
  kind = t.kind;
  from = cond t.option (at + 4) (at + 3);
  count = length t.path;
  own = t.own;
  next = n - length rest;
}

module _ (words : List ℕ) (at : ℕ) where
  path_there : (b : Bool) (path : List ℕ) → take (length path) (drop (cond b 4 3) (drop at words)) ≡ path
      → take (length path) (drop (cond b (at + 4) (at + 3)) words) ≡ path
  path_there true path p = rw (← drop-drop 4 at words) p
  path_there false path p = rw (← drop-drop 3 at words) p

  laid_size : {t : LoweredType} {rest : List ℕ} (h : Any (drop at words) t rest)
      → length h.own + length rest ≡ length words - at
  laid_size {rest = rest} h = sym (length-append h.own rest) ∙ ap length h.whole ∙ length-drop at words

  laid_stands : (t : LoweredType) (rest : List ℕ) → Any (drop at words) t rest
      → Stands words at t rest (parts_of at (length words) t rest)
  laid_stands t rest h =
      let size = laid_size h in
      let next : length words - length rest ≡ at + length h.own = omega (arith, h.front) in
      record {
        option = refl;
        kind = refl;
        count = refl;
        few = h.few;
        path = path_there t.option t.path h.path;
        own = refl;
        left = rw (next, ← drop-drop (length h.own) at words, ← h.whole) (drop-append_seam h.own rest);
        past = omega (arith, h.front);
        within = omega arith;
      }

  pub type_located : {r : Option Parts} → r ≡ located at (length words) (read_lowered (drop at words))
      → Locates words at (read_lowered (drop at words)) r
  type_located e =
      subst (Locates words at (read_lowered (drop at words))) (sym e) (go (read_lowered (drop at words)) (type_laid (drop at words)))
    where
      go : (reading : Reading LoweredType) → Holds (Any (drop at words)) reading
          → Locates words at reading (located at (length words) reading)
      go Fails h = nowhere
      go (Read t rest) (read h) =
          locates {t = t} {rest = rest} {p = parts_of at (length words) t rest} (laid_stands t rest h)

  -- and its code
  code_behind : (b : Bool) → 3 ≤ cond b (at + 4) (at + 3)
  code_behind true = omega arith
  code_behind false = omega arith

  code_place : (b : Bool) → cond b (at + 4) (at + 3) - 3 ≡ at + (cond b 4 3 - 3)
  code_place true = omega arith
  code_place false = omega arith

  laid_coded : (t : LoweredType) (rest : List ℕ) → Any (drop at words) t rest
      → Coded words (parts_of at (length words) t rest)
  laid_coded t rest h =
      record {
        behind = code_behind t.option;
        inside = rw (code_place t.option) (omega (arith, h.front, laid_size h));
        code = rw (code_place t.option, ← get_or-drop at words (cond t.option 4 3 - 3) 0) h.code;
      }

  pub type_coded : {r : Option Parts} → r ≡ located at (length words) (read_lowered (drop at words)) → CodedAt words r
  type_coded e = subst (CodedAt words) (sym e) (go (read_lowered (drop at words)) (type_laid (drop at words)))
    where
      go : (reading : Reading LoweredType) → Holds (Any (drop at words)) reading
          → CodedAt words (located at (length words) reading)
      go Fails h = tt
      go (Read t rest) (read h) = laid_coded t rest h
