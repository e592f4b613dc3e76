use Rattle.hook_config.proofs.Views.{list_of-List}
use Rattle.hook_config.proofs.kinds.list_of.Goals as goal

pub returns-in-List : goal.returns-in-List
returns-in-List c = rw (c.in-List.is, c.as_slice.ensures.value) (list_of-List c.in-List.items)
