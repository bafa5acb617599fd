-- What is sent are the rows of the frame, from what the chains carry.
use Rattle.std.proofs.Common.{◌≡◌, ℕ, ◌*◌, ◌≤◌, true, List, ◌++◌, length, take, drop, sym, ap, ◌∙◌, subst, append_assoc, arith, length-append, length-drop, take_at, drop_at}
use Rattle.std.proofs.lemmas.Slice.{drop-append-drop}
use Rattle.stage.specs.Model.{coding}
use Rattle.stage.specs.Plain.{within}
use Rattle.frame.specs.declared.headers.Header.{Header}
use Rattle.frame.specs.Answers.{Legal, payload}
use Rattle.frame.specs.Sizes.{live_carriers, payload_rows, row_count}
use Rattle.packing.specs.Bits.{header_bits}
use Rattle.chains.specs.Chains.{header_chain, payload_chain}
use Rattle.rows.specs.Carriers.{Silent, count_before, gathered, is_reference, live_cell, row_at, rows_in, spread}
use Rattle.rows.specs.Rows.{RowsOf, cells_of, payload_reference}
use Rattle.rows.proofs.CarrierLaws.{count_rows, gathered_spread, spread_long, spread_silent}
use Rattle.rows.proofs.ChainLaws.{header_bits_legal, reference_carries, row_carries}
use Rattle.chains.proofs.Callers.{coding_is_long, coding_is_phases, right_is_legal}
use Rattle.rows.proofs.RowLaws.{last_row_of_front, last_row_refers, legal_tone_map_low, rows_in_cells, rows_in_count, rows_in_whole}
use Rattle.sending.specs.Laws.{HoldsFrame}
use Rattle.sending.specs.Sendings.{frame_cells, header_part, payload_part, sent}

-- The header's rows have 468 cells, and each is a phase.
pub header_part_long : (h : Header) (reference : List ℕ) → is_reference reference ≡ true → (length (header_part h reference) ≡ 468) × (within 7 (header_part h reference) ≡ true)
header_part_long h reference r =
    let c = reference_carries reference r in
    let l = header_bits_legal h reference r in
    (coding_is_long (header_chain reference) 1 28 468 468 c (header_bits h) l, coding_is_phases (header_chain reference) 1 28 468 468 c (header_bits h) l)

-- The payload's coding has a cell for each live place of the payload's rows.
pub payload_coding_long : (h : Header) (row bytes : List ℕ) → Legal h → is_reference row ≡ true → length bytes ≡ payload h → within 255 bytes ≡ true
    → length (coding (payload_chain h (gathered h.tm row)) bytes) ≡ count_before (live_cell h.tm) (36 * payload_rows h.fl)
payload_coding_long h row bytes legal r n w =
    let m = payload_chain h (gathered h.tm row) in
    let c = row_carries h row legal r in
    let l = right_is_legal m 255 (payload h) (live_carriers h.tm * payload_rows h.fl) 9072 c bytes n w in
    coding_is_long m 255 (payload h) (live_carriers h.tm * payload_rows h.fl) 9072 c bytes l ∙ sym (count_rows h.tm (legal_tone_map_low h legal) (payload_rows h.fl))

payload_part_long : (h : Header) (bytes cells : List ℕ) → length (payload_part h bytes cells) ≡ 36 * payload_rows h.fl
payload_part_long h bytes cells = spread_long h.tm (36 * payload_rows h.fl) (coding (payload_chain h (payload_reference h cells)) bytes)

-- The sent cells, with anything behind them, begin with the rows of the frame.
pub sent_rows : (h : Header) (reference bytes rest : List ℕ) → Legal h → is_reference reference ≡ true → length bytes ≡ payload h → within 255 bytes ≡ true
    → RowsOf reference h bytes (rows_in (row_count h.fl) (sent h reference bytes ++ rest))
sent_rows h reference bytes rest legal r n w =
    let head = header_part h reference in
    let hl = header_part_long h reference r in
    let body = payload_part h bytes head in
    let bl = payload_part_long h bytes head in
    let refers = last_row_refers head hl.0 hl.1 in
    let rows = rows_in (row_count h.fl) (sent h reference bytes ++ rest) in
    let size : length (sent h reference bytes) ≡ 36 * row_count h.fl = omega (arith, length-append head body) in
    let cells : cells_of rows ≡ sent h reference bytes = rows_in_cells (row_count h.fl) (sent h reference bytes ++ rest) ∙ take_at (sent h reference bytes) rest (36 * row_count h.fl) size in
    let row : payload_reference h (sent h reference bytes) ≡ payload_reference h head = ap (gathered h.tm) (last_row_of_front head body hl.0) in
    record {
      frame = record { legal_header = legal; exactly = n; bytes_only = w };
      count = rows_in_count (row_count h.fl) (sent h reference bytes ++ rest);
      whole = rows_in_whole (row_count h.fl) (sent h reference bytes ++ rest) (omega (arith, length-append (sent h reference bytes) rest));
      header = ap (take 468) cells ∙ take_at head body 468 hl.0;
      payload = record {
        on_live =
            ap (λ q. gathered h.tm (drop 468 q)) cells
            ∙ ap (gathered h.tm) (drop_at head body 468 hl.0)
            ∙ gathered_spread h.tm (36 * payload_rows h.fl) (coding (payload_chain h (payload_reference h head)) bytes) (payload_coding_long h (row_at 12 head) bytes legal refers n w)
            ∙ ap (λ q. coding (payload_chain h q) bytes) (sym (ap (payload_reference h) cells ∙ row));
        elsewhere = subst (Silent h.tm) (sym (ap (drop 468) cells ∙ drop_at head body 468 hl.0)) (spread_silent h.tm (36 * payload_rows h.fl) (coding (payload_chain h (payload_reference h head)) bytes));
      };
    }

pub sent_holds : (h : Header) (reference bytes cells : List ℕ) → Legal h → is_reference reference ≡ true → length bytes ≡ payload h → within 255 bytes ≡ true → frame_cells h ≤ length cells
    → HoldsFrame reference h bytes cells (sent h reference bytes ++ drop (frame_cells h) cells)
sent_holds h reference bytes cells legal r n w room =
    let head = header_part h reference in
    let hl = header_part_long h reference r in
    let bl = payload_part_long h bytes head in
    let size : length (sent h reference bytes) ≡ 36 * row_count h.fl = omega (arith, length-append head (payload_part h bytes head)) in
    record {
      rows = sent_rows h reference bytes (drop (frame_cells h) cells) legal r n w;
      rest = drop_at (sent h reference bytes) (drop (frame_cells h) cells) (frame_cells h) size;
      long = omega (arith, length-append (sent h reference bytes) (drop (frame_cells h) cells), length-drop (frame_cells h) cells);
    }

-- The payload's rows depend on the header's rows alone, whatever stands behind these.
payload_part_of_front : (h : Header) (bytes front rest : List ℕ) → length front ≡ 468 → payload_part h bytes (front ++ rest) ≡ payload_part h bytes front
payload_part_of_front h bytes front rest l =
    ap (λ q. spread h.tm (36 * payload_rows h.fl) (coding (payload_chain h (gathered h.tm q)) bytes)) (last_row_of_front front rest l)

-- What is behind the frame in a buffer whose header rows were written.
rest_of_frame : (h : Header) (head cells : List ℕ) → length head ≡ 468 → frame_cells h ≤ length cells → drop (frame_cells h) (head ++ drop 468 cells) ≡ drop (frame_cells h) cells
rest_of_frame h head cells l room = drop-append-drop 468 cells head (frame_cells h) (omega arith) l

-- Writing the payload's rows behind the header's gives what is sent.
pub written_is_sent : (h : Header) (reference bytes cells : List ℕ) → is_reference reference ≡ true → frame_cells h ≤ length cells
    → take 468 (header_part h reference ++ drop 468 cells) ++ (payload_part h bytes (header_part h reference ++ drop 468 cells) ++ drop (frame_cells h) (header_part h reference ++ drop 468 cells)) ≡ sent h reference bytes ++ drop (frame_cells h) cells
written_is_sent h reference bytes cells r room =
    let head = header_part h reference in
    let l = (header_part_long h reference r).0 in
    ap (λ q. q ++ (payload_part h bytes (head ++ drop 468 cells) ++ drop (frame_cells h) (head ++ drop 468 cells))) (take_at head (drop 468 cells) 468 l)
    ∙ ap (λ q. head ++ (q ++ drop (frame_cells h) (head ++ drop 468 cells))) (payload_part_of_front h bytes head (drop 468 cells) l)
    ∙ ap (λ q. head ++ (payload_part h bytes head ++ q)) (rest_of_frame h head cells l room)
    ∙ sym (append_assoc head (payload_part h bytes head) (drop (frame_cells h) cells))

-- The last of the header's rows is one of phases, whatever stands behind them.
pub written_row_refers : (h : Header) (reference rest : List ℕ) → is_reference reference ≡ true → is_reference (row_at 12 (header_part h reference ++ rest)) ≡ true
written_row_refers h reference rest r =
    let l = header_part_long h reference r in
    ap is_reference (last_row_of_front (header_part h reference) rest l.0) ∙ last_row_refers (header_part h reference) l.0 l.1
