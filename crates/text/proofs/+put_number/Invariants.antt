use Rattle.text.proofs.+put_number.Given as goal

-- The measure is the number.
abbrev pub decreases-put_number : goal.decreases-put_number
decreases-put_number l = l.n
