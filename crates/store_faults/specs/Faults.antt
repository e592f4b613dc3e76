-- The refusals (docs/REFERENCE.md, "The store"): the number and the printed name of each, which one an error
-- of the database is, and in which cases each comes.
use Rattle.std.specs.Prelude.{ℕ, List, codes}
use Rattle.sqlite.specs.declared.error.Error.{Error}
use Rattle.sqlite.specs.declared.error.Error.TheVariants.{SqliteFailure}
use Rattle.sqlite.specs.declared.error.ErrorCode.TheVariants as code
use Rattle.answer_records.specs.declared.record_fault.RecordFault.{RecordFault}
use Rattle.answer_records.specs.declared.record_fault.RecordFault.TheVariants as refused
use Rattle.store_faults.specs.declared.fault.StoreFault.{StoreFault}
use Rattle.store_faults.specs.declared.fault.StoreFault.TheVariants.{NotAStore, Damaged, Sql, OutOfMemory, Collision, TooLarge, TooMany}

abbrev pub store_fault_number : StoreFault → ℕ
store_fault_number NotAStore = 1
store_fault_number Damaged = 2
store_fault_number (Sql error) = 3
store_fault_number OutOfMemory = 4
store_fault_number Collision = 5
store_fault_number TooLarge = 6
store_fault_number TooMany = 7

abbrev pub store_fault_name : StoreFault → List ℕ
store_fault_name NotAStore = codes "NotAStore"
store_fault_name Damaged = codes "Damaged"
store_fault_name (Sql error) = codes "Sql"
store_fault_name OutOfMemory = codes "OutOfMemory"
store_fault_name Collision = codes "Collision"
store_fault_name TooLarge = codes "TooLarge"
store_fault_name TooMany = codes "TooMany"

-- the refusal for an error of the database: lack of memory is a case of its own, every other error is passed
-- on
abbrev pub fault_of : Error → StoreFault
fault_of (SqliteFailure code.OutOfMemory) = OutOfMemory
fault_of error = Sql error

-- the refusal of a record that can't be made
abbrev pub record_fault : RecordFault → StoreFault
record_fault refused.TooLarge = TooLarge
record_fault refused.OutOfMemory = OutOfMemory

-- A refusal that comes only if contents are too large, something is too many or contents collide, or if
-- memory or the database refuses.
abbrev pub IsRefusal : Type 0 → Type 0 → Type 0 → StoreFault → Type 0
IsRefusal large many collides NotAStore = ⊥
IsRefusal large many collides Damaged = ⊥
IsRefusal large many collides (Sql error) = Unit {0}
IsRefusal large many collides OutOfMemory = Unit {0}
IsRefusal large many collides Collision = collides
IsRefusal large many collides TooLarge = large
IsRefusal large many collides TooMany = many

-- A refusal of stored rows that comes only if they break a rule, or if memory or the database refuses.
abbrev pub IsDamage : Type 0 → StoreFault → Type 0
IsDamage broken NotAStore = ⊥
IsDamage broken Damaged = broken
IsDamage broken (Sql error) = Unit {0}
IsDamage broken OutOfMemory = Unit {0}
IsDamage broken Collision = ⊥
IsDamage broken TooLarge = ⊥
IsDamage broken TooMany = ⊥
