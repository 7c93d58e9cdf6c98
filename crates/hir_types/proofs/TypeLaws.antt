-- Where a type stands: one law for each way out of `struct_at`, `opaque_at`, `slice_at`, `bare_at` and `type_at`.
use Rattle.std.specs.Prelude.{Some, None, Option}
use Prim.Native.Nat.{ℕ, ◌+◌, ◌-◌, ◌≤◌, ◌<◌}
use mathlib.Core.Bool.{Bool, true, false, cond}
use mathlib.Core.Path.{◌≡◌, refl, ap, ◌∙◌}
use mathlib.Core.List.{List, []}
use native.Mathlib.Omega.{arith}
use lib.ListN.{length, drop, length-drop, drop_of_length-le}
use borrow.Author.Tests.{ne_eqb}
use Rattle.records.specs.Reading.{Reading, Read, Fails, onward, read_lifetimes}
use Rattle.hir_types.specs.declared.types.Kind.TheVariants.{Plain, Opaque, Struct, Slice}
use Rattle.hir_types.specs.declared.types.Own.TheVariants.{Absent, Word, Strs}
use Rattle.hir_types.specs.declared.types.Parts.{Parts}
use Rattle.hir_types.specs.LoweredTypes.{LoweredType, lowered_type, read_flag, read_owner, read_opaque, read_struct}
use Rattle.hir_types.specs.LoweredTypes.{read_slice, read_bare, read_lowered, located}
use Rattle.hir_types.specs.Places.{Stands, Locates, locates, nowhere}
use Rattle.hir_types.specs.Inner.{starts_at, LocatesBare}
use Rattle.hir_types.proofs.PathLaws.{WordAt, word_here, word_behind, PathAt, flag_read, flag_fails, stands_none}
use Rattle.hir_types.proofs.PathLaws.{stands_path}

-- a reading that fails, and one that does not
fails_bare : {words : List ℕ} {at : ℕ} {option : Bool} {reading : Reading LoweredType} → reading ≡ Fails
    → LocatesBare words at option reading None
fails_bare e = rw e (record { found = nowhere; start = tt })

reads_bare : {words : List ℕ} {at : ℕ} {option : Bool} {reading : Reading LoweredType} {t : LoweredType} {rest : List ℕ}
    {p : Parts} → reading ≡ Read t rest → Stands words at t rest p
    → p.option ≡ option → p.from ≡ at + 3 → LocatesBare words at option reading (Some p)
reads_bare e s o f = rw e (record { found = locates s; start = (o, f) })

none_behind : (words : List ℕ) (at : ℕ) → length words ≤ at + 1 → drop (at + 1) words ≡ []
none_behind words at h = drop_of_length-le words {i = at + 1} h

-- ---- a struct

module _ (words : List ℕ) (at : ℕ) (option : Bool) where
  pub struct_short : length words ≤ at + 1 → LocatesBare words at option (read_struct option (drop (at + 1) words)) None
  unfolding read_struct
  struct_short h = fails_bare (rw (none_behind words at h))

  module _ {row : ℕ} (w : WordAt words (at + 1) row) where
    pub struct_missing : read_lifetimes (drop (at + 2) words) ≡ Fails
        → LocatesBare words at option (read_struct option (drop (at + 1) words)) None
    unfolding read_struct
    struct_missing e = fails_bare (rw (word_behind words at w, e))

    pub struct_whole : {path : List ℕ} {next : ℕ} → PathAt words (at + 2) next path
        → LocatesBare words at option (read_struct option (drop (at + 1) words))
        (Some (record {
          option = option;
          kind = Struct row;
          from = at + 3;
          count = next - (at + 3);
          own = Absent;
          next = next;
        }))
    unfolding read_struct
    struct_whole {path} {next} there =
        reads_bare (rw (word_behind words at w, there.reads))
        (stands_path there option (Struct row) Absent next (omega arith) there.within) refl refl

-- ---- an opaque

module _ (words : List ℕ) (at : ℕ) (option : Bool) where
  pub opaque_short : length words ≤ at + 1 → LocatesBare words at option (read_opaque option (drop (at + 1) words)) None
  unfolding read_opaque
  opaque_short h = fails_bare (rw (none_behind words at h))

  module _ {optional : ℕ} (w : WordAt words (at + 1) optional) where
    pub opaque_no_flag : 1 < optional → LocatesBare words at option (read_opaque option (drop (at + 1) words)) None
    unfolding read_opaque
    opaque_no_flag b = fails_bare (rw (word_behind words at w, flag_fails optional (drop (at + 2) words) b))

    module _ (flag : optional ≤ 1) where
      -- past the flag
      opaque_path : read_opaque option (drop (at + 1) words)
          ≡ onward (read_lifetimes (drop (at + 2) words)) (λ path behind.
          onward (read_flag behind) (λ borrowed rest.
          onward (read_owner borrowed rest) (λ own end. Read (lowered_type option Opaque path own) end)))
      unfolding read_opaque
      opaque_path = let f = flag_read optional (drop (at + 2) words) flag in rw (word_behind words at w, f.1)

      pub opaque_missing : read_lifetimes (drop (at + 2) words) ≡ Fails
          → LocatesBare words at option (read_opaque option (drop (at + 1) words)) None
      opaque_missing e = fails_bare (rw (opaque_path, e))

      module _ {path : List ℕ} {owner : ℕ} (there : PathAt words (at + 2) owner path) where
        pub opaque_unowned : length words ≤ owner → LocatesBare words at option (read_opaque option (drop (at + 1) words)) None
        opaque_unowned k = fails_bare (rw (opaque_path, there.reads, drop_of_length-le words {i = owner} k))

        module _ {borrowed : ℕ} (k : WordAt words owner borrowed) where
          pub opaque_owned : borrowed ≡ 0
              → LocatesBare words at option (read_opaque option (drop (at + 1) words))
              (Some (record {
                option = option;
                kind = Opaque;
                from = at + 3;
                count = owner - (at + 3);
                own = Absent;
                next = owner + 1;
              }))
          opaque_owned e =
              reads_bare (rw (opaque_path, there.reads, word_here words owner k, e))
              (stands_path there option Opaque Absent (owner + 1) (omega arith) (omega (arith, k.0))) refl refl

          pub opaque_lost : borrowed ≡ 1 → length words ≤ owner + 1
              → LocatesBare words at option (read_opaque option (drop (at + 1) words)) None
          opaque_lost e b = fails_bare (rw (opaque_path, there.reads, word_here words owner k, e, none_behind words owner b))

          pub opaque_borrowed : borrowed ≡ 1 → {word : ℕ} → WordAt words (owner + 1) word
              → LocatesBare words at option (read_opaque option (drop (at + 1) words))
              (Some (record {
                option = option;
                kind = Opaque;
                from = at + 3;
                count = owner - (at + 3);
                own = Word word;
                next = owner + 2;
              }))
          opaque_borrowed e {word} b =
              reads_bare (rw (opaque_path, there.reads, word_here words owner k, e, word_behind words owner b))
              (stands_path there option Opaque (Word word) (owner + 2) (omega arith) (omega (arith, b.0))) refl refl

          pub opaque_no_owner : 1 < borrowed → LocatesBare words at option (read_opaque option (drop (at + 1) words)) None
          opaque_no_owner b =
              fails_bare
              (rw (opaque_path, there.reads, word_here words owner k, flag_fails borrowed (drop (owner + 1) words) b))

-- ---- a slice

module _ (words : List ℕ) (at : ℕ) (option : Bool) where
  pub slice_short : length words ≤ at + 1 → LocatesBare words at option (read_slice option (drop (at + 1) words)) None
  unfolding read_slice
  slice_short h = fails_bare (rw (none_behind words at h))

  module _ {code : ℕ} (w : WordAt words (at + 1) code) where
    pub slice_bare : code ≡ 0
        → LocatesBare words at option (read_slice option (drop (at + 1) words))
        (Some (record { option = option; kind = Slice; from = at + 3; count = 0; own = Absent; next = at + 2 }))
    unfolding read_slice
    slice_bare e =
        reads_bare (rw (word_behind words at w, e))
        (stands_none option Slice Absent (at + 3) (at + 2) (omega arith) (omega (arith, w.0))) refl refl

    pub slice_strs : code ≡ 2
        → LocatesBare words at option (read_slice option (drop (at + 1) words))
        (Some (record { option = option; kind = Slice; from = at + 3; count = 0; own = Strs; next = at + 2 }))
    unfolding read_slice
    slice_strs e =
        reads_bare (rw (word_behind words at w, e))
        (stands_none option Slice Strs (at + 3) (at + 2) (omega arith) (omega (arith, w.0))) refl refl

    pub slice_lost : code ≡ 1 → length words ≤ at + 2
        → LocatesBare words at option (read_slice option (drop (at + 1) words)) None
    unfolding read_slice
    slice_lost e k = fails_bare (rw (word_behind words at w, e, drop_of_length-le words {i = at + 2} k))

    pub slice_own : code ≡ 1 → {word : ℕ} → WordAt words (at + 2) word
        → LocatesBare words at option (read_slice option (drop (at + 1) words))
        (Some (record { option = option; kind = Slice; from = at + 3; count = 0; own = Word word; next = at + 3 }))
    unfolding read_slice
    slice_own e {word} k =
        let f : at + 3 ≡ at + 2 + 1 = omega arith in
        reads_bare (rw (word_behind words at w, e, f, word_here words (at + 2) k))
        (stands_none option Slice (Word word) (at + 3) (at + 3) (omega arith) (omega (arith, k.0))) refl
        refl

    pub slice_missing : code ≡ 3 → read_lifetimes (drop (at + 2) words) ≡ Fails
        → LocatesBare words at option (read_slice option (drop (at + 1) words)) None
    unfolding read_slice
    slice_missing e k = fails_bare (rw (word_behind words at w, e, k))

    module _ (e : code ≡ 3) {path : List ℕ} {owner : ℕ} (there : PathAt words (at + 2) owner path) where
      pub slice_unowned : length words ≤ owner → LocatesBare words at option (read_slice option (drop (at + 1) words)) None
      unfolding read_slice
      slice_unowned k = fails_bare (rw (word_behind words at w, e, there.reads, drop_of_length-le words {i = owner} k))

      pub slice_opaques : {word : ℕ} → WordAt words owner word
          → LocatesBare words at option (read_slice option (drop (at + 1) words))
          (Some (record {
            option = option;
            kind = Slice;
            from = at + 3;
            count = owner - (at + 3);
            own = Word word;
            next = owner + 1;
          }))
      unfolding read_slice
      slice_opaques {word} k =
          reads_bare (rw (word_behind words at w, e, there.reads, word_here words owner k))
          (stands_path there option Slice (Word word) (owner + 1) (omega arith) (omega (arith, k.0))) refl refl

    pub slice_no_code : 3 < code → LocatesBare words at option (read_slice option (drop (at + 1) words)) None
    unfolding read_slice
    slice_no_code b = fails_bare
        (rw (
          word_behind words at w,
          ne_eqb code 0 (λ e. omega arith),
          ne_eqb code 1 (λ e. omega arith),
          ne_eqb code 2 (λ e. omega arith),
          ne_eqb code 3 (λ e. omega arith),
        ))

-- ---- a type that is no option

module _ (words : List ℕ) (at : ℕ) (option : Bool) where
  pub bare_none : length words ≤ at → LocatesBare words at option (read_bare option (drop at words)) None
  unfolding read_bare
  bare_none h = fails_bare (rw (drop_of_length-le words {i = at} h))

  module _ {code : ℕ} (w : WordAt words at code) where
    pub bare_plain : code ≡ 0
        → LocatesBare words at option (read_bare option (drop at words))
        (Some (record { option = option; kind = Plain; from = at + 3; count = 0; own = Absent; next = at + 1 }))
    unfolding read_bare
    bare_plain e =
        reads_bare (rw (word_here words at w, e))
        (stands_none option Plain Absent (at + 3) (at + 1) (omega arith) (omega (arith, w.0))) refl refl

    module _ {r : Option Parts} where
      pub bare_opaque : code ≡ 1 → LocatesBare words at option (read_opaque option (drop (at + 1) words)) r
          → LocatesBare words at option (read_bare option (drop at words)) r
      unfolding read_bare
      bare_opaque e k = rw (word_here words at w, e) k

      pub bare_struct : code ≡ 2 → LocatesBare words at option (read_struct option (drop (at + 1) words)) r
          → LocatesBare words at option (read_bare option (drop at words)) r
      unfolding read_bare
      bare_struct e k = rw (word_here words at w, e) k

      pub bare_slice : code ≡ 3 → LocatesBare words at option (read_slice option (drop (at + 1) words)) r
          → LocatesBare words at option (read_bare option (drop at words)) r
      unfolding read_bare
      bare_slice e k = rw (word_here words at w, e) k

    pub bare_no_code : 3 < code → LocatesBare words at option (read_bare option (drop at words)) None
    unfolding read_bare
    bare_no_code b = fails_bare
        (rw (
          word_here words at w,
          ne_eqb code 0 (λ e. omega arith),
          ne_eqb code 1 (λ e. omega arith),
          ne_eqb code 2 (λ e. omega arith),
          ne_eqb code 3 (λ e. omega arith),
        ))

-- ---- any type

-- what a call says that found a type
abbrev Told : List ℕ → ℕ → Option Parts → Type 0
Told words at r = r ≡ located at (length words) (read_lowered (drop at words))

-- the parts, from where they stand
same_parts : {words rest : List ℕ} {at : ℕ} {t : LoweredType} {p : Parts} (place : ℕ) → Stands words at t rest p
    → p.from ≡ cond p.option (place + 4) (place + 3)
    → Some p ≡ located place (length words) (Read t rest)
same_parts {words} {rest} {at} {t} {p} place s f =
    let size : length words - p.next ≡ length rest = rw length-drop at (ap length s.left) in
    let n : length words - length rest ≡ p.next = omega (arith, s.within) in
    rw (← s.option, ← f, ← s.kind, ← s.count, ← s.own, n)

module _ (words : List ℕ) (at : ℕ) where
  pub type_none : length words ≤ at → Told words at None
  unfolding read_lowered
  type_none h = rw (drop_of_length-le words {i = at} h)

  told : (place : ℕ) (option : Bool) {reading : Reading LoweredType} {r : Option Parts}
      → place + 3 ≡ cond option (at + 4) (at + 3) → LocatesBare words place option reading r
      → r ≡ located at (length words) reading
  told place option e b = go b.found b.start
    where
      go : {reading : Reading LoweredType} {r : Option Parts} → Locates words place reading r → starts_at option (place + 3) r
          → r ≡ located at (length words) reading
      go nowhere s = refl
      go (locates {t} {rest} {p} k) s = same_parts at k (s.1 ∙ rw s.0 e)

  module _ {code : ℕ} (w : WordAt words at code) {r : Option Parts} where
    pub type_option : code ≡ 4 → LocatesBare words (at + 1) true (read_bare true (drop (at + 1) words)) r → Told words at r
    unfolding read_lowered
    type_option e k = rw (word_here words at w, e) (told (at + 1) true (omega arith) k)

    pub type_bare : (code ≡ 4 → ⊥) → LocatesBare words at false (read_bare false (drop at words)) r → Told words at r
    unfolding read_lowered
    type_bare e k = rw (word_here words at w, ne_eqb _ _ e, ← word_here words at w) (told at false refl k)
