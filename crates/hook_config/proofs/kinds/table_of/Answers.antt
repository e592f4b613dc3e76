use Rattle.hook_config.proofs.Views.{table_of-Table}
use Rattle.hook_config.proofs.kinds.table_of.Goals as goal

pub returns-in-Table : goal.returns-in-Table
returns-in-Table c = rw (c.in-Table.is, c.as_slice.ensures.value) (table_of-Table c.in-Table.members)
