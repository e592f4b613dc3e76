-- For private functions of the module `rowids`: numbers of which none comes twice.
use Rattle.std.specs.Prelude.{◌≡◌, ◌≢◌, ℤ, List, map, Option, None, Some}
use Rattle.std.specs.Ordering.{int_cmp}
use Rattle.std.specs.declared.cmp.Ordering.TheVariants.{Less}
use Rattle.sqlite_trees.specs.Tree.{IsAscending}
use Rattle.sqlite_value.specs.declared.value.Value.TheVariants.{Int}
use Rattle.sqlite_value.specs.Order.{Row, column}

-- each number is less than every later one
abbrev pub AreRisingRowids : List ℤ → Type 0
AreRisingRowids = IsAscending (λ a b. int_cmp a b ≡ Less)

abbrev pub AreDistinct : List ℤ → Type 0
AreDistinct = IsAscending (λ a b. a ≢ b)

-- the last number, if there is one, is less than the next
abbrev pub IsLastRowidBelow : Option ℤ → ℤ → Type 0
IsLastRowidBelow None next = Unit {0}
IsLastRowidBelow (Some last) next = int_cmp last next ≡ Less

-- each row has a number in its first column, and no two have the same
abbrev pub ShowRowids : List Row → Type 0
ShowRowids rows = (rowids : List ℤ) × (map Int rowids ≡ map (λ row. column row 0) rows) × AreDistinct rowids
