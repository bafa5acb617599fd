-- What `pack` and `unpack` are answered.
use Rattle.std.specs.Prelude.{◌≡◌, ℕ, List, ◌++◌, take, Ok, Err, codes, Option, Result}
use Rattle.frame.specs.declared.headers.Header.{Header}
use Rattle.packing.specs.declared.refusals.PackRefusal.{PackRefusal}
use Rattle.packing.specs.declared.refusals.UnpackRefusal.{UnpackRefusal}
use Rattle.packing.specs.declared.refusals.UnpackRefusal.TheVariants.{NotFiveBytes, Fault, Header as BadHeader}
use Rattle.packing.specs.Packings.{pack_answer, pack_number, packed, unpack_answer, unpack_number}
use Rattle.wording.specs.Calls.{read_header, then_read}
use Rattle.wording.specs.Hexes.{hex_of}
use Rattle.wording.specs.Lasts.{last_list, last_room}
use Rattle.wording.specs.Texts.{refused_text, with_chain_fault, with_header}
use Rattle.std.specs.Option.{option_map}

-- The bytes that a header packs to, under a name that proofs open only where they have to.
unfoldable pub header_bytes : Header → List ℕ
header_bytes h = packed h

-- What a packing that answered so leaves in its buffer: the answer is that of `pack`, and the bytes
-- that it counts are those of the header.
abbrev pub Leaves : Header → ℕ → Result ℕ PackRefusal → List ℕ → Type 0
Leaves h room (Ok n) after = (pack_answer h room ≡ Ok n) × (take n after ≡ header_bytes h)
Leaves h room (Err e) after = pack_answer h room ≡ Err e

-- The text of what `pack` answered.
abbrev pub packed_text : Header → Result ℕ PackRefusal → List ℕ
packed_text h (Ok n) = codes "bytes " ++ hex_of (header_bytes h)
packed_text h (Err e) = refused_text (pack_number e)

-- `pack HEADER ROOM`
abbrev pub pack_reply : List (List ℕ) → Option (List ℕ)
pack_reply ws =
    then_read (read_header ws)
    (λ h ws1. option_map (λ room. packed_text h (pack_answer h room)) (last_room ws1))

-- A text with the fault behind it, if the refusal has one.
abbrev pub with_check_fault : List ℕ → UnpackRefusal → List ℕ
with_check_fault text (Fault f) = with_chain_fault text f
with_check_fault text NotFiveBytes = text
with_check_fault text (BadHeader e) = text

-- The text of what `unpack` answered.
abbrev pub unpacked_text : Result Header UnpackRefusal → List ℕ
unpacked_text (Ok h) = with_header (codes "header") h
unpacked_text (Err e) = with_check_fault (refused_text (unpack_number e)) e

-- `unpack HEX`
abbrev pub unpack_reply : List (List ℕ) → Option (List ℕ)
unpack_reply ws = option_map (λ bytes. unpacked_text (unpack_answer bytes)) (last_list ws)
