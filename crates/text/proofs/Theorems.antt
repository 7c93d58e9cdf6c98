-- The main theorems, proved: for each statement of specs/Theorems.antt a term of exactly its type.
use Rattle.text.specs.Theorems.{DigitsOfNumbers, NumbersReadBack}
use Rattle.text.proofs.DigitLaws.{digits_single, digits_more, digits_length}
use Rattle.text.proofs.InverseLaws.{number_printed, number_spelt, number_none}

pub digits_of_numbers : DigitsOfNumbers
digits_of_numbers n = record { single = digits_single; more = digits_more; few = λ k. digits_length k n }

pub numbers_read_back : NumbersReadBack
numbers_read_back limit bytes =
    record {
      printed = λ n rest e d h. rw e (number_printed limit n rest d h);
      read = number_spelt limit bytes;
      nothing = number_none limit bytes;
    }
