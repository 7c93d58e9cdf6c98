-- The exported calls by the calls below: a slice more that is long enough changes nothing; one that is too short leaves
-- the refusals of the sheet as they are, and 9.
use Rattle.std.specs.Prelude.{Ok, Err}
use Prim.Native.Nat.{ℕ, ◌≤◌, ◌<◌}
use mathlib.Core.Bool.{Bool, true, false, cond}
use mathlib.Core.Path.{◌≡◌, refl, sym, ap, ◌∙◌}
use mathlib.Core.List.{List, [], ◌∷◌, ◌++◌, flat_map, append_assoc}
use native.Mathlib.Omega.{arith}
use borrow.Author.Tests.{le-ltb, lt-ltb}
use lib.Dec.{ltb}
use lib.ListN.{length, drop, set}
use Rattle.answers.specs.declared.Refusal.{Refusal}
use Rattle.answers.specs.declared.Refusal.TheVariants.{NoRoom}
use Rattle.answers.specs.Refusals.{Check, Outcome, unless, number_of}
use Rattle.answers.specs.Lent.{Slice, held, left, room, Fills, Stays, counted, room_check}
use Rattle.sheet.specs.Text.{text}
use Rattle.sheet.specs.Reading.{sheet_of}
use Rattle.sheet.specs.Answer.{records_at}
use Rattle.sheet_writer.specs.Laid.{laid_checks, write_laid}
use Rattle.borrowing_param.specs.declared.borrows.Borrows as answer
use Rattle.borrowing_param.specs.Edges.{edge_words}
use Rattle.borrowing_param.specs.SheetMethod.{sheet_refusals}
use Rattle.borrowing_param.specs.Borrows.{Borrows, sheet_borrows, borrows_room_checks, borrow_sheet, borrows_answer, used_words}
use Rattle.borrowing_param.specs.Borrows.{answer_words, edges_words}
use Rattle.listing.specs.Listing.{listing_of, listing_checks, listing}
use Rattle.borrowing_param.proofs.OutcomeLaws.{ok_same, no_both}
use Rattle.exports.specs.Calls.{unplaced, length_word, text_to, TextAnswers, count_words, sheet_to, SheetAnswers}

module _ {A : Type 0} (a : A) where
  -- one check more, not due
  idle : (checks : List Check) (c : Check) → c.due ≡ false → unless (checks ++ (c ∷ [])) a ≡ unless checks a
  unfolding unless
  idle [] c e = rw e
  idle (d ∷ checks) c e = ap (λ (o : Outcome A). cond d.due (Err d.refusal) o) (idle checks c e)

  -- checks for room, in place of other checks for room
  module _ (rooms others : List Check) (short : unless others a ≡ Err NoRoom) (only : (k : Refusal)
      → unless rooms a ≡ Err k → k ≡ NoRoom) where
    in_place_given : (checks : List Check) (b : A) → unless (checks ++ rooms) a ≡ Ok b
        → unless (checks ++ others) a ≡ Err NoRoom
    unfolding unless
    in_place_given [] b e = short
    in_place_given (c ∷ checks) b e = go c.due (in_place_given checks b) e
      where
        go : (t : Bool) → (unless (checks ++ rooms) a ≡ Ok b → unless (checks ++ others) a ≡ Err NoRoom)
            → cond t (Err c.refusal) (unless (checks ++ rooms) a) ≡ Ok b
            → cond t (Err c.refusal) (unless (checks ++ others) a) ≡ Err NoRoom
        go true f e = let z : ◌≡◌ {A = ℕ} 0 1 = cc in absurd (omega arith)
        go false f e = f e

    in_place_refused : (checks : List Check) (k : Refusal) → unless (checks ++ rooms) a ≡ Err k
        → unless (checks ++ others) a ≡ Err k
    unfolding unless
    in_place_refused [] k e = rw (only k e) short
    in_place_refused (c ∷ checks) k e = go c.due (in_place_refused checks k) e
      where
        go : (t : Bool) → (unless (checks ++ rooms) a ≡ Err k → unless (checks ++ others) a ≡ Err k)
            → cond t (Err c.refusal) (unless (checks ++ rooms) a) ≡ Err k
            → cond t (Err c.refusal) (unless (checks ++ others) a) ≡ Err k
        go true f e = e
        go false f e = f e

  -- 9 at the last, 9 or nothing before it
  short_or : (t : Bool) (rest : Outcome A) → rest ≡ Err NoRoom → cond t (Err NoRoom) rest ≡ Err NoRoom
  short_or true rest e = refl
  short_or false rest e = e

  only_or : (t : Bool) (rest : Outcome A) → ((k : Refusal) → rest ≡ Err k → k ≡ NoRoom) → (k : Refusal)
      → cond t (Err NoRoom) rest ≡ Err k → k ≡ NoRoom
  only_or true rest f k e = cc
  only_or false rest f k e = f k e

  only_none : (k : Refusal) → ◌≡◌ {A = Outcome A} (Ok a) (Err k) → k ≡ NoRoom
  only_none k e = let z : ◌≡◌ {A = ℕ} 0 1 = cc in absurd (omega arith)

-- ---- stores at the front

pub one_stored : (x : ℕ) (w : List ℕ) → 1 ≤ length w → set w 0 x ≡ (x ∷ []) ++ drop 1 w
one_stored x [] h = absurd (omega (arith, h))
one_stored x (a ∷ w) h = refl

-- ---- a text and its length, by a call that gives the text

refused_text : {o : Outcome (List ℕ)} {k : Refusal} {s : ℕ} {out w : Slice} → o ≡ Err k → s ≡ number_of k
    → Stays out → Stays w → TextAnswers o s out w
refused_text e h a b = record { status_is = rw e h; out_filled = rw e a; written_filled = rw e b }

module _ (checks : List Check) (text : List ℕ) where
  -- what the call below gives, which has no word for the length
  abbrev unworded : ℕ → Outcome (List ℕ)
  unworded room = unless (checks ++ (room_check room text ∷ [])) text

  -- with a place for the length it is that
  to_unworded : (room words : ℕ) → 1 ≤ words → text_to checks text room words ≡ unworded room
  unfolding text_to
  to_unworded room words h =
      ap (λ (cs : List Check). unless cs text)
      (sym (append_assoc checks (room_check room text ∷ []) (room_check words (length_word text) ∷ [])))
      ∙ idle text (checks ++ (room_check room text ∷ [])) (room_check words (length_word text)) (le-ltb words 1 h)

  -- without one, the call into no room tells the refusal
  no_word : (room : ℕ) → unless (room_check room text ∷ room_check 0 (length_word text) ∷ []) text ≡ Err NoRoom
  unfolding unless
  no_word room = short_or text (ltb room (length text)) _ refl

  only_room : (k : Refusal) → unless (room_check 0 text ∷ []) text ≡ Err k → k ≡ NoRoom
  unfolding unless
  only_room = only_or text (ltb 0 (length text)) (Ok text) (only_none text)

  given_there : (b : List ℕ) → unworded 0 ≡ Ok b → (room : ℕ) → text_to checks text room 0 ≡ Err NoRoom
  unfolding text_to
  given_there b e room =
      in_place_given text (room_check 0 text ∷ []) (room_check room text ∷ room_check 0 (length_word text) ∷ [])
      (no_word room) only_room checks b e

  refused_there : (k : Refusal) → unworded 0 ≡ Err k → (room : ℕ) → text_to checks text room 0 ≡ Err k
  unfolding text_to
  refused_there k e room =
      in_place_refused text (room_check 0 text ∷ []) (room_check room text ∷ room_check 0 (length_word text) ∷ [])
      (no_word room) only_room checks k e

  untold : (o : Outcome (List ℕ)) → o ≡ unworded 0 → (room : ℕ) → text_to checks text room 0 ≡ Err (unplaced (counted o))
  untold (Ok b) e room = given_there b (sym e) room
  untold (Err k) e room = refused_there k (sym e) room

  -- the ways out of the exported call
  module _ (out w : Slice) where
    abbrev there : Outcome (List ℕ)
    there = text_to checks text (room out) (room w)

    pub text_unplaced : {o : Outcome (List ℕ)} {l : Outcome ℕ} {k : Refusal} {s : ℕ} → room w ≡ 0 → o ≡ unworded 0
        → l ≡ counted o → k ≡ unplaced l → s ≡ number_of k → Stays out → Stays w → TextAnswers there s out w
    text_unplaced {o} none is told why =
        refused_text (rw none (untold o is (room out)) ∙ ap (λ (x : Outcome ℕ). Err (unplaced x)) (sym told)
        ∙ ap (λ (x : Refusal). Err x) (sym why))

    module _ (place : 1 ≤ room w) {o : Outcome (List ℕ)} (is-unworded : o ≡ unworded (room out)) (stands : Fills o out) where
      same : there ≡ o
      same = to_unworded (room out) (room w) place ∙ sym is-unworded

      pub text_refused : {k : Refusal} {s : ℕ} → Err k ≡ counted o → s ≡ number_of k → Stays w → TextAnswers there s out w
      text_refused {k} {s} e h c = go o refl e stands
        where
          go : (x : Outcome (List ℕ)) → o ≡ x → Err k ≡ counted x → Fills x out → TextAnswers there s out w
          go (Ok b) u v x = no_both v
          go (Err m) u v x = let z : k ≡ m = cc in refused_text (same ∙ u) (rw (← z) h) x c

      pub text_given : {n : ℕ} → Ok n ≡ counted o → left w ≡ set (held w) 0 n → TextAnswers there 0 out w
      text_given {n} e c = go o refl e stands
        where
          go : (x : Outcome (List ℕ)) → o ≡ x → Ok n ≡ counted x → Fills x out → TextAnswers there 0 out w
          go (Ok b) u v x =
              let z : length b ≡ n = sym (ok_same v) in
              let g : there ≡ Ok b = same ∙ u in
              record { status_is = rw g; out_filled = rw g x; written_filled = rw (g, z) (c ∙ one_stored n (held w) place) }
          go (Err m) u v x = no_both (sym v)

-- the two calls that give a text
pub is_listing : (bytes : List ℕ) (room : ℕ)
    → listing bytes room
    ≡ unless (listing_checks bytes ++ (room_check room (listing_of (sheet_of bytes)) ∷ [])) (listing_of (sheet_of bytes))
unfolding listing
is_listing bytes room = refl

pub is_writing : (words ends : List ℕ) (room : ℕ)
    → write_laid words ends room
    ≡ unless (laid_checks words ends ++ (room_check room (text (records_at words ends)) ∷ [])) (text (records_at words ends))
unfolding write_laid
is_writing words ends room = refl

-- ---- `borrows_sheet`

refused_sheet : {o : Outcome Borrows} {k : Refusal} {s : ℕ} {used answers edges w : Slice} → o ≡ Err k → s ≡ number_of k
    → Stays used → Stays answers → Stays edges → Stays w → SheetAnswers o s used answers edges w
refused_sheet e h a b c d =
    record { status_is = rw e h; used_filled = rw e a; answers_filled = rw e b; edges_filled = rw e c; counts_filled = rw e d }

module _ (bytes : List ℕ) where
  abbrev all : Borrows
  all = sheet_borrows (sheet_of bytes)

  to_borrows : (used answers edges counts : ℕ) → 3 ≤ counts
      → sheet_to bytes used answers edges counts ≡ borrow_sheet bytes used answers edges
  unfolding sheet_to borrow_sheet
  to_borrows used answers edges counts h =
      ap (λ (cs : List Check). unless cs all)
      (sym
      (append_assoc (sheet_refusals bytes) (borrows_room_checks all used answers edges)
      (room_check counts (count_words all) ∷ [])))
      ∙ idle all (sheet_refusals bytes ++ borrows_room_checks all used answers edges) (room_check counts (count_words all)) (le-ltb counts 3 h)

  no_words : (used answers edges counts : ℕ) → counts < 3
      → unless (borrows_room_checks all used answers edges ++ (room_check counts (count_words all) ∷ [])) all ≡ Err NoRoom
  unfolding unless
  no_words used answers edges counts h =
      let last : cond (ltb counts 3) (Err NoRoom) (Ok all) ≡ Err NoRoom = rw (lt-ltb counts 3 h) in
      short_or all (ltb used (length all.used))
      _ (short_or all (ltb answers (length all.answers))
      _ (short_or all (ltb edges (length (flat_map edge_words all.edges))) _ last))

  only_rooms : (k : Refusal) → unless (borrows_room_checks all 0 0 0) all ≡ Err k → k ≡ NoRoom
  unfolding unless
  only_rooms =
      only_or all (ltb 0 (length all.used))
      _ (only_or all (ltb 0 (length all.answers))
      _ (only_or all (ltb 0 (length (flat_map edge_words all.edges))) _ (only_none all)))

  borrowed_there : (b : Borrows) → borrow_sheet bytes 0 0 0 ≡ Ok b → (used answers edges counts : ℕ) → counts < 3
      → sheet_to bytes used answers edges counts ≡ Err NoRoom
  unfolding sheet_to borrow_sheet
  borrowed_there b e used answers edges counts h =
      in_place_given all (borrows_room_checks all 0 0 0)
      (borrows_room_checks all used answers edges ++ (room_check counts (count_words all) ∷ []))
      (no_words used answers edges counts h) only_rooms (sheet_refusals bytes) b e

  unborrowed_there : (k : Refusal) → borrow_sheet bytes 0 0 0 ≡ Err k → (used answers edges counts : ℕ) → counts < 3
      → sheet_to bytes used answers edges counts ≡ Err k
  unfolding sheet_to borrow_sheet
  unborrowed_there k e used answers edges counts h =
      in_place_refused all (borrows_room_checks all 0 0 0)
      (borrows_room_checks all used answers edges ++ (room_check counts (count_words all) ∷ []))
      (no_words used answers edges counts h) only_rooms (sheet_refusals bytes) k e

  unborrowed : (o : Outcome Borrows) → borrow_sheet bytes 0 0 0 ≡ o → (used answers edges counts : ℕ) → counts < 3
      → sheet_to bytes used answers edges counts ≡ Err (unplaced (borrows_answer o))
  unborrowed (Ok b) e = borrowed_there b e
  unborrowed (Err k) e = unborrowed_there k e

  module _ (used answers edges w : Slice) where
    abbrev here : Outcome Borrows
    here = sheet_to bytes (room used) (room answers) (room edges) (room w)

    abbrev below : Outcome Borrows
    below = borrow_sheet bytes (room used) (room answers) (room edges)

    pub no_places : {r : Outcome answer.Borrows} {k : Refusal} {s : ℕ} → room w < 3
        → r ≡ borrows_answer (borrow_sheet bytes 0 0 0) → k ≡ unplaced r → s ≡ number_of k
        → Stays used → Stays answers → Stays edges → Stays w → SheetAnswers here s used answers edges w
    no_places h told why =
        refused_sheet
        (unborrowed (borrow_sheet bytes 0 0 0) refl (room used) (room answers) (room edges) (room w) h
        ∙ ap (λ (x : Outcome answer.Borrows). Err (unplaced x)) (sym told) ∙ ap (λ (x : Refusal). Err x) (sym why))

    module _ (places : 3 ≤ room w) (a : Fills (used_words below) used) (b : Fills (answer_words below) answers)
        (c : Fills (edges_words below) edges) where
      same_borrows : here ≡ below
      same_borrows = to_borrows (room used) (room answers) (room edges) (room w) places

      pub borrowed_refused : {k : Refusal} {s : ℕ} → Err k ≡ borrows_answer below → s ≡ number_of k → Stays w
          → SheetAnswers here s used answers edges w
      borrowed_refused {k} {s} e h d = go below refl e a b c
        where
          go : (o : Outcome Borrows) → below ≡ o → Err k ≡ borrows_answer o → Fills (used_words o) used
              → Fills (answer_words o) answers → Fills (edges_words o) edges → SheetAnswers here s used answers edges w
          go (Ok x) u v p q t = no_both v
          go (Err m) u v p q t = let z : k ≡ m = cc in refused_sheet (same_borrows ∙ u) (rw (← z) h) p q t d

      pub borrowed_given : {r : answer.Borrows} {three : List ℕ} → Ok r ≡ borrows_answer below
          → three ≡ r.used ∷ r.params ∷ r.edges ∷ [] → left w ≡ three ++ drop 3 (held w)
          → SheetAnswers here 0 used answers edges w
      borrowed_given {r} {three} e is d = go below refl e a b c
        where
          go : (o : Outcome Borrows) → below ≡ o → Ok r ≡ borrows_answer o
              → Fills (used_words o) used → Fills (answer_words o) answers → Fills (edges_words o) edges
              → SheetAnswers here 0 used answers edges w
          go (Ok x) u v p q t =
              let g : here ≡ Ok x = same_borrows ∙ u in
              let z : three ≡ count_words x =
              is ∙ ap (λ (y : answer.Borrows). y.used ∷ y.params ∷ y.edges ∷ []) (ok_same v) in
              record {
                status_is = rw g;
                used_filled = rw g p;
                answers_filled = rw g q;
                edges_filled = rw g t;
                counts_filled = rw g (d ∙ ap (λ (ws : List ℕ). ws ++ drop 3 (held w)) z);
              }
          go (Err k) u v p q t = no_both (sym v)
