-- What the crate takes from the libraries below it.
pub use Rattle.std.proofs.Common.{ap, append-nil, append_assoc, arith, get_or, inl, inr, length}
pub use Rattle.std.proofs.Common.{length-append, map, refl, rules, subst, suc, sym, take}
pub use Rattle.std.proofs.Common.{vec_capacity, vec_len, ◌∙◌}
pub use Rattle.std.proofs.lemmas.List.{length-map, length-replicate, map-append, take-map}
pub use Rattle.std.proofs.lemmas.List.{take-replicate}
pub use Rattle.std.proofs.lemmas.List.Elements.{All-cons, All-nil, All-push, All-rest}
pub use Rattle.std.proofs.lemmas.List.Elements.{filter-append}
pub use Rattle.std.specs.List.{AllZip, flat_map}
pub use Rattle.std.specs.Prelude.{[], All, Bool, Err, false, filter, IfErr, IfOk, IfSome, IsNone}
pub use Rattle.std.specs.Prelude.{IsSome, List, MatchOption, nat_lt, None, not, Ok, OnErr, OnOk}
pub use Rattle.std.specs.Prelude.{Option, option_map, replicate, Result, slice_index_or, Some}
pub use Rattle.std.specs.Prelude.{sum_by, true, ℕ}
pub use Rattle.std.specs.Vec.Iter.{into_iter_items, into_iter_len}
pub use Rattle.g1_core.specs.Barrier.{buffer_of, logged}
pub use Rattle.g1_core.specs.Calls.{DoesRefine, DoesStore, IsLent, refine_entry, store_entry}
pub use Rattle.g1_core.specs.declared.entry.Entry.{Entry}
pub use Rattle.g1_core.specs.declared.reply.Fill.TheVariants.{Full, Helped, No}
pub use Rattle.g1_core.specs.declared.reply.RefineReply.{RefineReply}
pub use Rattle.g1_core.specs.declared.reply.StoreReply.{StoreReply}
pub use Rattle.g1_history.specs.History.{BookTerms, History, IsEntered, IsFull, layout_in, Made}
pub use Rattle.g1_history.specs.History.{terms_of}
pub use Rattle.g1_history.specs.declared.refusal.Refusal.{Refusal}
pub use Rattle.g1_history.specs.declared.refusal.Refusal.TheVariants.{BookFull, NoMemory}
pub use Rattle.g1_layout.specs.Shape.{card_of, Shape, slot_count}
pub use Rattle.g1_layout.specs.declared.kind.Kind.TheVariants.{AlreadyDirty, Logged, Null}
pub use Rattle.g1_layout.specs.declared.kind.Kind.TheVariants.{SameRegion}
pub use Rattle.g1_log.specs.Ends.{AreAll, AreNewSenders, capacity_of, IsNewSender, IsNewTaker}
pub use Rattle.g1_log.specs.Ends.{IsSameSender}
pub use Rattle.g1_log.specs.Ends.{IsSameTaker, IsSenderOf, IsTakerOf, number_of, put_of}
pub use Rattle.g1_log.specs.Ends.{sender_home, sender_rights, taken_of, taker_home, taker_rights}
pub use Rattle.g1_log.specs.Ends.{WasEmpty, WasFull}
pub use Rattle.g1_log.specs.declared.ends.Taker.{Taker}
pub use Rattle.g1_log.specs.declared.line.Line.{Line}
pub use Rattle.g1_log.specs.declared.parcel.Parcel.{Parcel}
