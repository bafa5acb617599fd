-- Calls and answers as a program holds them.
use Rattle.std.specs.Prelude.{ℕ, List, [], ◌∷◌, Ok, Err, vec_items, Result, Vec}
use Rattle.frame.specs.declared.headers.Header.{Header}
use Rattle.receiving.specs.declared.refusals.TakeRefusal.{TakeRefusal}
use Rattle.receiving.specs.declared.scripts.Reply.{Reply}
use Rattle.receiving.specs.declared.scripts.Reply.TheVariants.{Started as StartReply, Fed as FeedReply, Took as TakeReply}
use Rattle.receiving.specs.declared.scripts.Step.{Step}
use Rattle.receiving.specs.declared.scripts.Step.TheVariants.{Start as StartStep, Feed as FeedStep, Take as TakeStep}
use Rattle.receiving.specs.Histories.{Answer, Call, Fed, Feed, Start, Started, Take, Took, after, answer}
use Rattle.receiving.specs.Steps.{View}

-- The call that a step of a script makes.
abbrev pub call_of : Step → Call
call_of (StartStep reference) = Start (vec_items reference)
call_of (FeedStep row) = Feed (vec_items row)
call_of (TakeStep room) = Take room

-- A take's answer by the header and the bytes.
abbrev pub took_items : {Z : Type 0} → Result (Header × Vec ℕ Z) TakeRefusal → Result (Header × List ℕ) TakeRefusal
took_items (Ok frame) = Ok (frame.0, vec_items frame.1)
took_items (Err e) = Err e

-- The answer that a reply holds.
abbrev pub answer_in : Reply → Answer
answer_in (StartReply told) = Started told
answer_in (FeedReply told) = Fed told
answer_in (TakeReply told) = Took (took_items told)

-- The answers of a receiver that holds v to calls in order.
abbrev pub answers_of : View → List Call → List Answer
answers_of v [] = []
answers_of v (c ∷ calls) = answer v c ∷ answers_of (after v c) calls
