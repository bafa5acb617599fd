-- The numbers of the refusals of sending.
use Rattle.std.specs.Prelude.{ℕ}
use Rattle.frame.specs.Refusals.{number_of}
use Rattle.sending.specs.declared.refusals.BeginRefusal.{BeginRefusal}
use Rattle.sending.specs.declared.refusals.BeginRefusal.TheVariants.{Header as BadHeader, Reference, TooShort}
use Rattle.sending.specs.declared.refusals.FinishRefusal.{FinishRefusal}
use Rattle.sending.specs.declared.refusals.FinishRefusal.TheVariants.{PayloadLength, TooShort as RowsTooShort, Reference as RowReference}
use Rattle.sending.specs.declared.refusals.SendRefusal.{SendRefusal}
use Rattle.sending.specs.declared.refusals.SendRefusal.TheVariants.{Begin as NotBegun, PayloadLength as SentLength}

abbrev pub begin_number : BeginRefusal → ℕ
begin_number (BadHeader e) = number_of e
begin_number Reference = 8
begin_number TooShort = 7

abbrev pub finish_number : FinishRefusal → ℕ
finish_number PayloadLength = 6
finish_number RowsTooShort = 7
finish_number RowReference = 8

abbrev pub send_number : SendRefusal → ℕ
send_number (NotBegun e) = begin_number e
send_number SentLength = 6
