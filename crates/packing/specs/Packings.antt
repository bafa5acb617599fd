-- A header packed to five bytes: 28 bits, their check of five bits, and seven zeros.
use Rattle.std.specs.Prelude.{◌≡◌, ℕ, ◌+◌, ◌*◌, ◌/◌, ◌%◌, cond, List, ◌++◌, map, length, drop, replicate, Some, None, Ok, Err, Option, Result, ◌==◌, nat_lt, slice_index}
use Rattle.std.specs.List.{range_with_len}
use Rattle.stage.specs.declared.faults.ChainFault.{ChainFault}
use Rattle.stage.specs.Model.{plain, coding, decoding}
use Rattle.stage.specs.Plain.{Plain}
use Rattle.codings.specs.Checks.{checking, only_length}
use Rattle.codings.specs.Unpackers.{unpacking}
use Rattle.frame.specs.declared.headers.Header.{Header}
use Rattle.frame.specs.declared.refusals.Refusal.{Refusal}
use Rattle.frame.specs.Answers.{refusal}
use Rattle.frame.specs.Refusals.{number_of}
use Rattle.packing.specs.Bits.{header_bits, header_length, part, value}
use Rattle.packing.specs.declared.refusals.PackRefusal.{PackRefusal}
use Rattle.packing.specs.declared.refusals.PackRefusal.TheVariants.{Header as PackHeader, TooShort}
use Rattle.packing.specs.declared.refusals.UnpackRefusal.{UnpackRefusal}
use Rattle.packing.specs.declared.refusals.UnpackRefusal.TheVariants.{NotFiveBytes, Fault, Header as UnpackHeader}

-- How many bytes a header packs to, and how many bits that makes.
abbrev pub packed_length : ℕ
packed_length = 5

abbrev pub word_length : ℕ
word_length = 40

-- The seven zeros behind the check.
abbrev pub padding_length : ℕ
padding_length = 7

abbrev pub padding : List ℕ
padding = replicate padding_length 0

-- A checked header as a word of 40 bits: the check's coding, followed by seven zeros. Its faults are
-- the check's, and the place in a received word is counted as if that were the check's coding.
abbrev pub header_word : Plain
header_word =
    record {
      number = checking.number;
      takes = checking.takes;
      puts = checking.puts;
      coded_length = only_length header_length word_length;
      message_length = only_length word_length header_length;
      coding = λ bits. coding (plain checking) bits ++ padding;
      guess = checking.guess;
    }

-- The bytes of a word, eight bits each.
abbrev pub bytes_of : List ℕ → List ℕ
bytes_of word = map (λ i. value (part (8 * i) 8 word)) (range_with_len 0 packed_length)

-- The five bytes that a header packs to.
abbrev pub packed : Header → List ℕ
packed h = bytes_of (coding (plain header_word) (header_bits h))

-- The header in five bytes: PDC, MOD with FL, the low byte of TM, TM[8] with DT and four bits of the
-- check.
abbrev pub header_in : List ℕ → Header
header_in bytes =
    record {
      pdc = slice_index bytes 0;
      modulation = slice_index bytes 1 / 64;
      fl = slice_index bytes 1 % 64;
      tm = slice_index bytes 3 / 128 * 256 + slice_index bytes 2;
      dt = slice_index bytes 3 / 16 % 8;
    }

-- The numbers of the refusals of `pack`.
abbrev pub pack_number : PackRefusal → ℕ
pack_number (PackHeader e) = number_of e
pack_number TooShort = 7

-- The numbers of the refusals of `unpack`.
abbrev pub unpack_number : UnpackRefusal → ℕ
unpack_number NotFiveBytes = 13
unpack_number (Fault f) = 10
unpack_number (UnpackHeader e) = number_of e

-- A header's refusal, or else room for five bytes: how many are written, or that there is too little.
abbrev pub pack_unless : Option Refusal → ℕ → Result ℕ PackRefusal
pack_unless (Some e) room = Err (PackHeader e)
pack_unless None room = cond (nat_lt room packed_length) (Err TooShort) (Ok packed_length)

-- The answer to `pack` with a buffer of so many bytes.
abbrev pub pack_answer : Header → ℕ → Result ℕ PackRefusal
pack_answer h room = pack_unless (refusal h) room

-- The buffer after `pack`: the five bytes in front of what stood there, or all as it was.
abbrev pub Packed : Header → Result ℕ PackRefusal → List ℕ → List ℕ → Type 0
Packed h (Ok n) before after = after ≡ packed h ++ drop packed_length before
Packed h (Err e) before after = after ≡ before

-- The header, unless one of the refusals 2 to 5 applies to it.
abbrev pub unpack_unless : Option Refusal → Header → Result Header UnpackRefusal
unpack_unless (Some e) h = Err (UnpackHeader e)
unpack_unless None h = Ok h

-- The fault of a decoding, if it has one.
abbrev pub fault_in : Result (List ℕ) ChainFault → Option ChainFault
fault_in (Ok bits) = None
fault_in (Err f) = Some f

-- The answer by what the check says of the word.
abbrev pub unpack_checked : Option ChainFault → Header → Result Header UnpackRefusal
unpack_checked (Some f) h = Err (Fault f)
unpack_checked None h = unpack_unless (refusal h) h

-- The answer to `unpack`.
abbrev pub unpack_answer : List ℕ → Result Header UnpackRefusal
unpack_answer bytes =
    cond
    (length bytes == packed_length)
    (unpack_checked (fault_in (decoding (plain header_word) (coding (plain unpacking) bytes))) (header_in bytes))
    (Err NotFiveBytes)
