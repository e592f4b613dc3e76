use Rattle.std.specs.Prelude.{◌≡◌, take, length, vec_len, vec_capacity}
use Rattle.child_port.specs.Telling.{SameTells}
use Rattle.repo_store.specs.StoreBooks.{remembered_by}
use Rattle.hook_run.specs.Moments.{moment}
use Rattle.commit_flow.specs.StoppedPlays.{IsSafePlay}
use Rattle.commit_flow.proofs.host.Host.play.Given as goal

abbrev pub invariant-commands : goal.invariant-commands
invariant-commands g l =
    let children = g.C.Children in
    record {
      safe : IsSafePlay g.S.Store (children.tells l.fn.children) (moment (children.call_count l.fn.children) (children.fault_count l.fn.children) (remembered_by l.fn.self.store.kept))
          (moment (children.call_count l.children) (children.fault_count l.children) (remembered_by l.self.store.kept)) l.fn.self.store l.self.store (take l.command-index l.commands) l.replies.items;
      same : SameTells (children.tells l.fn.children) (children.tells l.children);
      count : vec_len l.replies ≡ l.command-index;
      room : vec_capacity l.replies ≡ length l.commands;
    }
