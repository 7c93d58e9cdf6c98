-- How many bytes a line has at most, by how many digits each of its columns has, and lines one after another.
use Prim.Native.Nat.{ℕ, zero, suc, ◌+◌, ◌*◌, ◌≤◌}
use mathlib.Core.List.{List, [], ◌∷◌, flat_map, Memᴰ}
use mathlib.Core.Path.{◌≡◌, refl}
use native.Mathlib.Omega.{arith}
use lib.ListN.{length, replicate, length-append}
use Rattle.text.specs.Decimal.{digits, following, line}

-- words under columns: none has more digits than its column
abbrev pub Under : List ℕ → List ℕ → Type 0
Under [] [] = Unit {0}
Under [] (w ∷ ws) = ⊥
Under (d ∷ ds) [] = ⊥
Under (d ∷ ds) (w ∷ ws) = (length (digits w) ≤ d) × Under ds ws

-- so many bytes their line has at most: the digits, a space between, the line's end
abbrev pub following_bytes : List ℕ → ℕ
following_bytes [] = 1
following_bytes (d ∷ ds) = 1 + d + following_bytes ds

abbrev pub line_bytes : List ℕ → ℕ
line_bytes [] = 1
line_bytes (d ∷ ds) = d + following_bytes ds

following_short : (ds ws : List ℕ) → Under ds ws → length (following ws) ≤ following_bytes ds
unfolding following
following_short [] [] u = omega arith
following_short [] (w ∷ ws) u = absurd u
following_short (d ∷ ds) [] u = absurd u
following_short (d ∷ ds) (w ∷ ws) u = rw length-append (omega (arith, u.0, following_short ds ws u.1))

pub line_short : (ds ws : List ℕ) → Under ds ws → length (line ws) ≤ line_bytes ds
unfolding line
line_short [] [] u = omega arith
line_short [] (w ∷ ws) u = absurd u
line_short (d ∷ ds) [] u = absurd u
line_short (d ∷ ds) (w ∷ ws) u = rw length-append (omega (arith, u.0, following_short ds ws u.1))

-- columns of as many digits each
even_following : (d n : ℕ) → following_bytes (replicate n d) ≡ (1 + d) * n + 1
even_following d zero = omega arith
even_following d (suc n) = omega (arith, even_following d n)

pub even_line : (d n : ℕ) → line_bytes (replicate n d) ≤ (1 + d) * n + 1
even_line d zero = omega arith
even_line d (suc n) = omega (arith, even_following d n)

pub even_some : (d n : ℕ) → line_bytes (replicate (suc n) d) ≡ (1 + d) * suc n
even_some d n = omega (arith, even_following d n)

-- a line for each of some things, each of at most so many bytes
pub lines_short : {A : Type 0} (f : A → List ℕ) (n : ℕ) (l : List A) → ((a : A) → Memᴰ a l → length (f a) ≤ n)
    → length (flat_map f l) ≤ n * length l
unfolding flat_map
lines_short f n [] h = omega arith
lines_short f n (a ∷ l) h =
    let first = h a (Memᴰ.head refl) in
    let rest = lines_short f n l (λ x m. h x (Memᴰ.tail m)) in
    rw length-append (omega (arith, first, rest))
