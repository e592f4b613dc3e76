use Rattle.yaml_flows.proofs.FlowWalks.{closes}
use Rattle.yaml_flows.proofs.laws.a_flow_is_open_up_to_its_last_line.Goals as goal

pub returns : goal.returns
returns c = closes
