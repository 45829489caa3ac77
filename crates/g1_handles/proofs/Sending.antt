-- What a handle owns may go to another thread, if the value may.
use mir.Raw.{raw}
use base.Shift.{Keyless}
use Rattle.g1_handles.proofs.Prelude.{RattleType, lone, IsSend, lies}
use Rattle.g1_handles.specs.{Ptr, block_ptr, null_ptr, Global, Option, holds}
use Rattle.std.proofs.Crossing as heap

pub keyless : (R : RattleType) → IsSend R → (a : Global) (p : Ptr) (v : Option R.Denot) → Keyless (holds R a p v)
keyless R home a null_ptr v = tt
keyless R home a (block_ptr b o) v = λ x. (tt, (lies R home (block_ptr b o) x, heap.frees.frees a (raw (lone R.mir)) (block_ptr b o)))
