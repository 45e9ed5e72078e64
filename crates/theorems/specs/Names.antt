-- The model's types and variants, under the names of model/specs/Types.antt: what a crate passes on cannot be named from
-- above it.
pub use Rattle.types.specs.declared.Connection.TheVariants.{the_data as Connection, Unicast, Passthru, AllRemote, SomeLocal, Handed, Branch}
pub use Rattle.types.specs.declared.Received.TheVariants.{the_data as Received, End as got_end, Abort as got_abort}
pub use Rattle.types.specs.declared.Terminator.TheVariants.{the_data as Terminator, None as t_none, End as t_end, Abort as t_abort}
pub use Rattle.types.specs.declared.Terminator.TheVariants.{KeepLocal as t_keep}
pub use Rattle.types.specs.declared.Phase.TheVariants.{the_data as Phase, Free, Seek, Open, Wait, Done, Last, Abort as Aborted, FinAbort}
pub use Rattle.types.specs.declared.Input.{Input}
pub use Rattle.types.specs.declared.Output.{Output}
pub use Rattle.types.specs.declared.OutEntry.{OutEntry}
pub use Rattle.types.specs.declared.InEntry.{InEntry}
pub use Rattle.types.specs.declared.OutQueue.{OutQueue}
pub use Rattle.types.specs.declared.InQueue.{InQueue}
pub use Rattle.types.specs.declared.Site.{Site}
pub use Rattle.types.specs.declared.State.{State}
pub use Rattle.types.specs.declared.Network.{Network}
pub use Rattle.types.specs.declared.StoredSend.{StoredSend}
pub use Rattle.types.specs.declared.Run.{Run}
pub use Rattle.types.specs.declared.Sent.TheVariants.{the_data as Sent, Accepted, Refused as SendRefused}
pub use Rattle.types.specs.declared.Ran.TheVariants.{the_data as Ran, Nothing, Changed, Serviced, Refused as RunRefused}
pub use Rattle.types.specs.declared.AfterSend.{AfterSend}
pub use Rattle.types.specs.declared.AfterRun.{AfterRun}
pub use Rattle.types.specs.declared.Counts.{Counts}
