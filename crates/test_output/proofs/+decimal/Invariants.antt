-- `test_output::decimal` ends: a number falls as its last digit is cut off.
use Rattle.test_output.proofs.+decimal.Given as goal

abbrev pub decreases-decimal : goal.decreases-decimal
decreases-decimal l = l.n
