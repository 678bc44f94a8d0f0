-- `letters::Pen::put_number` meets its contract: the digits of the tenth, and the last digit behind them. The number falls.
use Rattle.letters.proofs.Pen.+put_number.Given as goal

abbrev pub decreases-put_number : goal.decreases-put_number
decreases-put_number l = l.n
