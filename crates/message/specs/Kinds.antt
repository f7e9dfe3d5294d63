-- The kinds of message: their numbers, and which end sends them.
use Rattle.std.specs.Prelude.{ℕ, Bool, true, false}
use Rattle.message.specs.declared.Message.{Message}
use Rattle.message.specs.declared.Message.TheVariants.{Quiet, Call, Offer, Agree, Dispute, Resolve, Delivery, Substitute, Ask, Return, Decline, Satisfied, Release}

-- the number of a kind
abbrev pub kind_of : Message → ℕ
kind_of (Quiet day exposure) = 0x01
kind_of (Call day exposure amount) = 0x02
kind_of (Offer day exposure amount) = 0x03
kind_of (Agree day) = 0x04
kind_of (Dispute day amount) = 0x05
kind_of (Resolve day exposure amount) = 0x06
kind_of (Delivery day lot class face) = 0x07
kind_of (Substitute lot class face old) = 0x08
kind_of (Ask day lot) = 0x09
kind_of (Return lot) = 0x0A
kind_of (Decline lot) = 0x0B
kind_of (Satisfied day) = 0x0C
kind_of (Release day) = 0x0E

-- the secured end sends it; else the pledgor end does
abbrev pub from_secured : Message → Bool
from_secured (Quiet day exposure) = true
from_secured (Call day exposure amount) = true
from_secured (Offer day exposure amount) = true
from_secured (Agree day) = false
from_secured (Dispute day amount) = false
from_secured (Resolve day exposure amount) = true
from_secured (Delivery day lot class face) = false
from_secured (Substitute lot class face old) = false
from_secured (Ask day lot) = false
from_secured (Return lot) = true
from_secured (Decline lot) = true
from_secured (Satisfied day) = true
from_secured (Release day) = false
