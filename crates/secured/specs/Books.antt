-- What a call of the secured book answers, told by the plain state.
use Rattle.std.specs.Prelude.{Ok, Err, Result}
use Rattle.refusal.specs.declared.Refusal.{Refusal}
use Rattle.message.specs.declared.Message.{Message}
use Rattle.secured.specs.declared.book.SecuredBook.{SecuredBook}
use Rattle.secured.specs.declared.state.SecuredState.{SecuredState}

-- the message and the state of the book after it
abbrev pub plain : Result (Message × SecuredBook) Refusal → Result (Message × SecuredState) Refusal
plain (Ok z) = Ok (z.0, z.1.state)
plain (Err x) = Err x
