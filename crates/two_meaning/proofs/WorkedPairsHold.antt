-- The runs of WorkedPairs under one theorem. It stands by itself, so that where a run is said otherwise the check names that run, and not what rests on it.
use Rattle.two_meaning.proofs.WorkedPairs.{WorkedPairs, sum_ends, sum_numbers, product_ends, product_numbers, difference_ends, difference_numbers}

pub worked_pairs : WorkedPairs
worked_pairs = record {
  sum = sum_ends;
  sum_names = sum_numbers;
  product = product_ends;
  product_names = product_numbers;
  difference = difference_ends;
  difference_names = difference_numbers;
}
