-- `lay_times` meets its contract: what is laid stays within the size, the size within the text, which stays as long as
-- it was.
use Rattle.std.proofs.Common.{◌≡◌, ◌≤◌, ◌+◌, length}
use Rattle.readings.proofs.pieces.lay_times.Given as goal

abbrev pub invariant-loop : goal.invariant-loop
invariant-loop l =
    (l.laid ≤ l.size) × (l.start + l.size ≤ length l.text) × (length l.text ≡ length l.initial.text)
