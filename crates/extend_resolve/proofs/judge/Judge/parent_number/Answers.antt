use Rattle.std.proofs.Common.{◌≡◌, ◌<◌, Some, length, get_or, sym, ap, ◌∙◌, subst, arith}
use Rattle.std.specs.List.{filter_map}
use Rattle.extend_resolve.specs.Machinery.Numbers.{kept_at}
use Rattle.extend_resolve.proofs.Members.{kept_in_place, read_links, read_at}
use Rattle.extend_resolve.proofs.Judging.{index_below, links_nodes, own_links}
use Rattle.extend_resolve.proofs.judge.Judge.parent_number.Goals as goal

pub index-requires : goal.index-requires
index-requires c =
    let low = index_below c.args.self.now c.args.index c.args.uploaded.now c.requires.judging in
    let same = links_nodes c.args.self.now c.requires.judging.judge in
    let ok = c.args.self.now.world.links.ok in
    omega (arith, low, same, ok)

pub returns-then-links-parents : goal.returns-then-links-parents
returns-then-links-parents c p named =
    let j = c.args.self.now in
    let u = c.args.uploaded.now in
    let low : c.args.index < length j.world.links.items = subst (λ n. c.args.index < n) (sym (links_nodes j c.requires.judging.judge)) (index_below j c.args.index u c.requires.judging) in
    let links : c.as_slice-links.result.now ≡ filter_map (λ p. kept_at p j.world.numbers.entries) u.interface.parents =
    read_links j.world.links.items c.args.index c.as_slice-links.result.now c.index.result.now low c.as_slice-links.ensures c.index.ensures ∙ own_links j c.args.index u c.requires.judging in
    let all : length c.as_slice-links.result.now ≡ length u.interface.parents = let size = ap length c.as_slice-parents.ensures in omega (arith, size, c.if-links-parents.true) in
    ap (λ xs. Some (get_or xs c.args.at 0)) links
    ∙ kept_in_place (λ p. kept_at p j.world.numbers.entries) u.interface.parents c.args.at p (sym (ap length links) ∙ all) named

pub returns-else-links-parents : goal.returns-else-links-parents
returns-else-links-parents c p named =
    let j = c.args.self.now in
    let same : c.index-parents-at.result ≡ p =
    c.index-parents-at.is ∙ ap (λ xs. get_or xs c.args.at c.index-parents-at.result) c.as_slice-parents.ensures ∙ read_at c.args.uploaded.now.interface.parents p c.index-parents-at.result c.args.at named in
    c.number.ensures ∙ ap (λ id. kept_at id j.world.numbers.entries) same
