-- The words of an ask as the command has them, and as they are defined.
use Rattle.dtdl_cmd.specs.Clients.{Client}
use Rattle.dtdl_cmd.specs.declared.client.AskWords as held

abbrev pub client_view : held.AskWords → Client
client_view c = record { host = c.host.now; port = c.port; method = c.method.now; has_body = c.has_body; target = c.target.now }
