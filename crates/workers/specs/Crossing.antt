-- What of two crews may be handed to other threads, and shared with them (this project's own).
use denote.RattleType.{RattleType}
use denote.Param.Send.{IsSend, IsSync, Frees}
use Rattle.std.specs.declared.alloc.Allocator as alloc

-- jobs, their tiles and results, the allocator, and what a thread works with
pub record MayCross (J O D K P Q A R G : RattleType) (a : alloc.Ghosts A.Denot) : Type 0 where
  pub send_first : IsSend J
  pub sync_first : IsSync J
  pub send_open : IsSend O
  pub send_done : IsSend D
  pub send_second : IsSend K
  pub sync_second : IsSync K
  pub send_second_open : IsSend P
  pub send_second_done : IsSend Q
  pub send_memory : IsSend A
  pub sync_memory : IsSync A
  pub frees : Frees a a.dealloc_token
  pub sync_runtime : IsSync R
  pub sync_gate : IsSync G
