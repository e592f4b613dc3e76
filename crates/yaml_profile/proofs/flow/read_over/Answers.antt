use Rattle.std.proofs.Common.{◌≡◌, ◌++◌, arith}
use Rattle.yaml_profile.specs.Blocks.{further}
use Rattle.yaml_profile.proofs.Flows.{further-end}
use Rattle.yaml_profile.proofs.flow.read_over.Goals as goal

pub returns-in-empty : goal.returns-in-empty
returns-in-empty c =
    let own : c.args.content.now ++ further c.args.later.now ≡ c.args.content.now = further-end c.args.content.now c.args.later.now 0 (omega arith) in
    rw own c.read_flow.ensures
