-- What a message says to a reader, on one line.
use Rattle.std.specs.Prelude.{ℕ, List, ◌++◌, codes, decimal}
use Rattle.std.specs.Fmt.{signed_decimal}
use Rattle.message.specs.declared.Message.{Message}
use Rattle.message.specs.declared.Message.TheVariants.{Quiet, Call, Offer, Agree, Dispute, Resolve, Delivery, Substitute, Ask, Return, Decline, Satisfied, Release}

abbrev pub words_of : Message → List ℕ
words_of (Quiet day exposure) = codes "quiet day " ++ (decimal day ++ (codes " exposure " ++ signed_decimal exposure))
words_of (Call day exposure amount) = codes "call day " ++ (decimal day ++ (codes " exposure " ++ (signed_decimal exposure ++ (codes " amount " ++ decimal amount))))
words_of (Offer day exposure amount) = codes "offer day " ++ (decimal day ++ (codes " exposure " ++ (signed_decimal exposure ++ (codes " amount " ++ decimal amount))))
words_of (Agree day) = codes "agree day " ++ decimal day
words_of (Dispute day amount) = codes "dispute day " ++ (decimal day ++ (codes " undisputed " ++ decimal amount))
words_of (Resolve day exposure amount) = codes "resolve day " ++ (decimal day ++ (codes " exposure " ++ (signed_decimal exposure ++ (codes " amount " ++ decimal amount))))
words_of (Delivery day lot class face) = codes "delivery day " ++ (decimal day ++ (codes " lot " ++ (decimal lot ++ (codes " class " ++ (decimal class ++ (codes " face " ++ decimal face))))))
words_of (Substitute lot class face old) = codes "substitute lot " ++ (decimal lot ++ (codes " class " ++ (decimal class ++ (codes " face " ++ (decimal face ++ (codes " for lot " ++ decimal old))))))
words_of (Ask day lot) = codes "ask day " ++ (decimal day ++ (codes " lot " ++ decimal lot))
words_of (Return lot) = codes "return lot " ++ decimal lot
words_of (Decline lot) = codes "decline lot " ++ decimal lot
words_of (Satisfied day) = codes "satisfied day " ++ decimal day
words_of (Release day) = codes "release day " ++ decimal day
