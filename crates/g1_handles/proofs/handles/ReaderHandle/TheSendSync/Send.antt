-- A handle goes to another thread, as a `Box` of its value does.
use Rattle.g1_handles.proofs.{exits_of, fields, to, IsSend, AllSend, owning_send, struct_send, sendable, quiet, keyless}
use denote.Struct.Owning.{shape}
use Rattle.std.proofs.alloc.Global.TheSendSync as global
use Rattle.g1_race.proofs.paused.reading.Reader.TheSendSync.{the_send as role}
use Rattle.g1_handles.proofs.party.Party.TheSendSync as party
use Rattle.g1_handles.specs.contracts.party.ReaderRole.TheImpl.{ghosts}
use Rattle.g1_handles.specs.Own.{reader_row as R}
use Rattle.g1_handles.specs.contracts.handles.ReaderHandle.{the_row, the_type}

pub send : IsSend the_row
send =
    let home = party.the_send _ ghosts role in
    let all : AllSend (fields the_type) = (search sendable, (global.the_field_send, tt)) in
    owning_send the_type all (λ d. keyless R home d.alloc d.at d.value)
    (λ k. quiet (to the_type) (exits_of k (fields the_type)) ((struct_send (shape the_type) all).leaving k))
