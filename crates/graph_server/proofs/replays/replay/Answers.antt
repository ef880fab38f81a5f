use Rattle.std.proofs.Common.{[], inr, refl, arith}
use Rattle.std.proofs.KnownBytes.{Consumes-nil}
use Rattle.http_ends.specs.declared.request.HttpEnd.TheVariants as causes
use Rattle.graph_steps.specs.States.{empty}
use Rattle.graph_server.proofs.Typed.{from_empty}
use Rattle.graph_server.proofs.replays.replay.Goals as goal

-- no memory was found for the routes
pub returns-in_default-clause-replay : goal.returns-in_default-clause-replay
returns-in_default-clause-replay g c =
    let wrote = c.give_up.ensures.wrote in (
      wrote.0,
      record {
        entries = [];
        state = empty;
        legal = refl;
        typed = c.empty_is_typed.ensures;
        session = record {
          took = [];
          exchanges = [];
          rest = g.S.Source.left c.args.source.now;
          last_es = [];
          last_out = wrote.0;
          consumed = Consumes-nil (g.S.Source.left c.args.source.now);
          read = refl;
          open_all = tt;
          few = omega arith;
          last = inr (causes.OutOfMemory, tt, refl, wrote.2);
          all_es = refl;
          all_out = refl;
        };
      },
      wrote.1,
    )

pub returns-clause-replay : goal.returns-clause-replay
returns-clause-replay g c =
    let served = c.serve-end.ensures.session in
    let legal = from_empty _ _ served.0 c.in-Ok.ensures served.2.goes_by in (
      served.1,
      record { entries = served.0; state = _; legal = legal; typed = c.histories_are_typed.ensures empty _ served.0 c.empty_is_typed.ensures legal; session = served.3 },
      served.2.appended,
    )
