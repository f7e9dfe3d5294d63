use Rattle.accord.proofs.Agreement.{books_agree}
use Rattle.accord.proofs.books_agree.Goals as goal

pub returns : goal.returns
returns c = books_agree
