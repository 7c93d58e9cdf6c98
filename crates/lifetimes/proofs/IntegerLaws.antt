-- Three laws of the integers' order.
use lib.IntN.{ℤ, pos, negsuc}
use lib.Signed.{◌≤ℤ◌, le_z}
use lib.Dec.{T, leb→le, le→leb}
use native.Mathlib.Nat.{le_trans}

le_on : (a b c : ℤ) → T (le_z a b) → T (le_z b c) → T (le_z a c)
le_on (pos a) (pos b) (pos c) h k = le→leb a c (le_trans (leb→le a b h) (leb→le b c k))
le_on (pos a) (pos b) (negsuc c) h k = absurd k
le_on (pos a) (negsuc b) c h k = absurd h
le_on (negsuc a) (pos b) (pos c) h k = tt
le_on (negsuc a) (pos b) (negsuc c) h k = absurd k
le_on (negsuc a) (negsuc b) (pos c) h k = tt
le_on (negsuc a) (negsuc b) (negsuc c) h k = le→leb c a (le_trans (leb→le c b k) (leb→le b a h))

pub ≤ℤ-trans : (a b c : ℤ) → a ≤ℤ b → b ≤ℤ c → a ≤ℤ c
≤ℤ-trans a b c h k = record { le = le_on a b c h.le k.le }

pub zero_one : pos 0 ≤ℤ pos 1
zero_one = record { le = tt }

pub not_one_zero : pos 1 ≤ℤ pos 0 → ⊥
not_one_zero h = h.le
