-- What a call of the pledgor book answers, told by the plain state.
use Rattle.std.specs.Prelude.{Ok, Err, Result}
use Rattle.refusal.specs.declared.Refusal.{Refusal}
use Rattle.message.specs.declared.Message.{Message}
use Rattle.pledgor.specs.declared.book.PledgorBook.{PledgorBook}
use Rattle.pledgor.specs.declared.state.PledgorState.{PledgorState}

-- the message and the state of the book after it
abbrev pub plain : Result (Message × PledgorBook) Refusal → Result (Message × PledgorState) Refusal
plain (Ok z) = Ok (z.0, z.1.state)
plain (Err x) = Err x

-- the state of the book that was opened
abbrev pub plainly : Result PledgorBook Refusal → Result PledgorState Refusal
plainly (Ok b) = Ok b.state
plainly (Err x) = Err x
