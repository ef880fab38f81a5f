use Rattle.std.proofs.Common.{◌≡◌, drop}
use Rattle.twin_value.specs.Named.{content_called}
use Rattle.graph_steps.proofs.held.declared.find_content.Given as goal

-- no content so far has the name
abbrev pub invariant-contents : goal.invariant-contents
invariant-contents l = content_called l.name (drop l.content-index l.contents) ≡ content_called l.name l.contents
