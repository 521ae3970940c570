-- `digits::tables::system` meets its contract: the rows one behind the other, in columns.
use Rattle.whole.proofs.Laws.{◌≡◌, refl, ap, ◌∙◌, List, [], ◌∷◌, ◌++◌, length, ℤ}
use Rattle.std.specs.List.{flat_map}
use Rattle.digits.specs.BuiltIn.{joined, stored}
use Rattle.digits.specs.Orders.{columns_of}
use Rattle.digits.proofs.tables.system.Goals as goal

flat : (rows : List (List ℤ)) → flat_map (λ (r : List ℤ). r) rows ≡ joined rows
flat [] = refl
flat (r ∷ rows) = ap (λ (l : List ℤ). r ++ l) (flat rows)

pub returns : goal.returns
unfolding stored
returns c =
    let columns = c.in_columns.ensures ∙ ap columns_of (c.as_flattened.ensures.value ∙ flat c.args.rows.now) in
    λ i. record { count = length c.args.rows.now; columns = columns i }
