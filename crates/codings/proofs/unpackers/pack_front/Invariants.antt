use Rattle.std.proofs.Common.{◌≡◌, ◌*◌, length}
use Rattle.codings.specs.Unpackers.{byte_at}
use Rattle.codings.proofs.InPlace.{Gathered}
use Rattle.codings.proofs.unpackers.pack_front.Given as goal

abbrev pub invariant-loop-i : goal.invariant-loop-i
invariant-loop-i l = (length l.buffer ≡ length l.initial.buffer) × Gathered (λ k. byte_at l.initial.buffer (k * 8)) l.initial.buffer l.buffer l.i
