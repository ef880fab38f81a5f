use Rattle.std.proofs.Common.{◌≡◌, drop, false}
use Rattle.dt_base.specs.names.Grammar.{Identifier}
use Rattle.dtdl_terms.specs.Sets.{interface_at}
use Rattle.model_life.specs.sets.Changing.{is_one_of}
use Rattle.model_life.specs.Machinery.Keeping.{UsersAreWithin, user_at, use_of}
use Rattle.model_life.proofs.users.link_all.Given as goal

abbrev pub invariant-ids : goal.invariant-ids
invariant-ids l = record {
  linked : (used user : Identifier) → is_one_of (drop l.id-index l.ids) user ≡ false → user_at used user l.users ≡ use_of used (interface_at user l.set);
  within : UsersAreWithin l.set l.users;
  others : (used user : Identifier) → is_one_of l.ids user ≡ false → user_at used user l.users ≡ user_at used user l.fn.users;
}
