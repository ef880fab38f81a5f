use Rattle.std.proofs.Common.{◌≡◌, ℕ, ◌++◌, List, [], ◌∷◌, map, length, Bor, sym, ap, ◌∙◌, subst, arith}
use Rattle.std.specs.Option.{option_or}
use Rattle.std.proofs.lemmas.List.{length-map, map_push}
use Rattle.dt_base.specs.names.Grammar.{Identifier}
use Rattle.dtdl_terms.specs.declared.interface.Interface.{Interface}
use Rattle.extend_resolve.specs.Machinery.Numbers.{kept_at, number_for}
use Rattle.extend_resolve.specs.Machinery.Gathering.{AreNumbered}
use Rattle.extend_resolve.proofs.Gathered.{numbered_one}
use Rattle.extend_resolve.proofs.gathering.put.Goals as goal

pub returns-clause-numbered : goal.returns-clause-numbered
returns-clause-numbered c =
    let now : Bor Interface → Interface = λ n. n.now in
    let nodes : List Interface = map now c.args.nodes.now.items in
    let items : length nodes ≡ length c.args.nodes.now.items = length-map c.args.nodes.now.items now in
    let long : c.len.result ≡ length nodes = omega (arith, items, c.len.ensures, c.args.nodes.now.ok.0) in
    let one : AreNumbered c.enter.new.numbers.entries (nodes ++ c.args.node.now ∷ []) =
    numbered_one c.args.numbers.now.entries c.enter.new.numbers.entries nodes c.args.node.now c.requires.numbered
    (λ q. c.in_ok-enter.ensures q ∙ ap (λ n. option_or (kept_at q c.args.numbers.now.entries) (number_for c.args.node.now.id n q)) long) in
    subst (AreNumbered c.enter.new.numbers.entries) (sym (ap (map now) c.in_ok-push.ensures.items ∙ map_push now c.args.nodes.now.items c.args.node)) one
