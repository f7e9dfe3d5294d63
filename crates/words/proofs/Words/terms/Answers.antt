use Rattle.std.proofs.Common.{refl}
use Rattle.words.proofs.Runs.{goes_on, stops}
use Rattle.words.proofs.Words.terms.Goals as goal

pub returns-in_err-number-4 : goal.returns-in_err-number-4
returns-in_err-number-4 c =
    goes_on _ _ _ _ _ c.in_ok-number.ensures (goes_on _ _ _ _ _ c.in_ok-number-2.ensures (goes_on _ _ _ _ _ c.in_ok-number-3.ensures (stops _ _ _ c.in_err-number-4.ensures c.from_residual-in_err-number-4.ensures)))

pub returns-in_err-number-5 : goal.returns-in_err-number-5
returns-in_err-number-5 c =
    goes_on _ _ _ _ _ c.in_ok-number.ensures (goes_on _ _ _ _ _ c.in_ok-number-2.ensures (goes_on _ _ _ _ _ c.in_ok-number-3.ensures (goes_on _ _ _ _ _ c.in_ok-number-4.ensures (stops _ _ _ c.in_err-number-5.ensures c.from_residual-in_err-number-5.ensures))))

pub returns-in_err-percentages : goal.returns-in_err-percentages
returns-in_err-percentages c =
    goes_on _ _ _ _ _ c.in_ok-number.ensures (goes_on _ _ _ _ _ c.in_ok-number-2.ensures (goes_on _ _ _ _ _ c.in_ok-number-3.ensures (goes_on _ _ _ _ _ c.in_ok-number-4.ensures (goes_on _ _ _ _ _ c.in_ok-number-5.ensures (stops _ _ _ c.in_err-percentages.ensures c.from_residual-in_err-percentages.ensures)))))

pub returns : goal.returns
returns c =
    goes_on _ _ _ _ _ c.in_ok-number.ensures (goes_on _ _ _ _ _ c.in_ok-number-2.ensures (goes_on _ _ _ _ _ c.in_ok-number-3.ensures (goes_on _ _ _ _ _ c.in_ok-number-4.ensures (goes_on _ _ _ _ _ c.in_ok-number-5.ensures (goes_on _ _ _ _ _ c.in_ok-percentages.ensures (record { is = refl; stays = refl }))))))
