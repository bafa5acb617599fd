-- What packing and unpacking owe each other.
use Rattle.std.specs.Prelude.{◌≡◌, ℕ, true, List, length, None, Ok}
use Rattle.stage.specs.Model.{plain, coding}
use Rattle.stage.specs.Plain.{within}
use Rattle.stage.specs.Promise.{Promise}
use Rattle.codings.specs.Unpackers.{unpacking}
use Rattle.frame.specs.declared.headers.Header.{Header}
use Rattle.frame.specs.Answers.{Legal}
use Rattle.frame.specs.Refusals.{first_beyond}
use Rattle.packing.specs.Bits.{header_bits}
use Rattle.packing.specs.Packings.{header_in, header_word, packed, packed_length, unpack_answer}

-- Every legal header packs to five bytes that unpack to it again, and bytes that unpack to a header
-- are those that it packs to.
pub record Packing_loses_nothing : Type 0 where
  -- a legal header packs to five bytes
  pub five : (h : Header) → Legal h → length (packed h) ≡ packed_length
  pub bytes : (h : Header) → Legal h → within 255 (packed h) ≡ true
  -- whose bits are the header's word
  pub word : (h : Header) → Legal h → coding (plain unpacking) (packed h) ≡ coding (plain header_word) (header_bits h)
  -- and which unpack to the header
  pub taken_back : (h : Header) → Legal h → unpack_answer (packed h) ≡ Ok h
  -- what unpacks to a header is what a legal header packs to
  pub nothing_else : (bytes : List ℕ) (h : Header) → within 255 bytes ≡ true → unpack_answer bytes ≡ Ok h → Legal h × (packed h ≡ bytes)
  -- no bytes hold a number above its field's range, so unpacking never refuses with 1
  pub in_range : (bytes : List ℕ) → within 255 bytes ≡ true → first_beyond (header_in bytes) ≡ None
  -- words keep the promise of a plain stage, so the place of a fault is the length of the longest front
  -- part that the received word shares with the word of some 28 bits
  pub promise : Promise (plain header_word)
