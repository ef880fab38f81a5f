-- The requests of which a graph of so many rooms is made, in their order (this project's own). The rooms are counted from 1.
use Rattle.std.specs.Prelude.{ℕ, zero, suc, ◌+◌, ◌*◌, ◌/◌, ◌%◌, List, [], ◌∷◌, ◌++◌, false, if◌then◌else◌, nat_lt, codes}
use Rattle.std.specs.Fmt.{decimal}
use Rattle.http_ends.specs.declared.request.Request.{Request}

abbrev pub request : List ℕ → List ℕ → List ℕ → Request
request method path body = record { method = method; path = path; query = []; body = body; close = false }

abbrev pub put : List ℕ → List ℕ → Request
put path body = request (codes "PUT") path body

-- ---- the models
unfoldable pub models_text : List ℕ
models_text = codes "[{\"@context\":\"dtmi:dtdl:context;2\",\"@id\":\"dtmi:demo:Space;1\",\"@type\":\"Interface\",\"displayName\":\"Space\",\"contents\":[{\"@type\":[\"Property\",\"Area\"],\"name\":\"area\",\"schema\":\"double\",\"unit\":\"squareMetre\"},{\"@type\":\"Relationship\",\"name\":\"contains\",\"target\":\"dtmi:demo:Space;1\"}]},{\"@context\":\"dtmi:dtdl:context;2\",\"@id\":\"dtmi:demo:Room;1\",\"@type\":\"Interface\",\"displayName\":{\"en\":\"Room\"},\"extends\":\"dtmi:demo:Space;1\",\"contents\":[{\"@type\":[\"Property\",\"Temperature\"],\"name\":\"setPoint\",\"schema\":\"double\",\"unit\":\"degreeCelsius\",\"writable\":true},{\"@type\":\"Relationship\",\"name\":\"hasSensor\",\"target\":\"dtmi:demo:Sensor;1\"},{\"@type\":\"Relationship\",\"name\":\"main\",\"target\":\"dtmi:demo:Sensor;1\",\"maxMultiplicity\":1}]},{\"@context\":\"dtmi:dtdl:context;2\",\"@id\":\"dtmi:demo:Sensor;1\",\"@type\":\"Interface\",\"displayName\":\"Sensor\",\"contents\":[{\"@type\":[\"Property\",\"Temperature\"],\"name\":\"reading\",\"schema\":\"double\",\"unit\":\"degreeCelsius\"},{\"@type\":[\"Telemetry\",\"Temperature\"],\"name\":\"live\",\"schema\":\"double\",\"unit\":\"degreeCelsius\"}]}]"

-- The models of spaces, of rooms, which are spaces, and of sensors.
abbrev pub post_models : Request
post_models = request (codes "POST") (codes "/models") models_text

-- ---- numbers
-- A number below 100,000 in five digits.
abbrev pub numeral : ℕ → List ℕ
numeral k = decimal (k / 10000) ++ (decimal (k / 1000 % 10) ++ (decimal (k / 100 % 10) ++ (decimal (k / 10 % 10) ++ decimal (k % 10))))

-- What the sensor of a room reads, in tenths.
abbrev pub tenths : ℕ → ℕ
tenths k = 37 * k % 1000

abbrev pub reading : ℕ → List ℕ
reading k = decimal (tenths k / 10) ++ 46 ∷ decimal (tenths k % 10)

-- ---- the twins: a room and its sensor
abbrev pub put_room : ℕ → Request
put_room k = put (codes "/digitaltwins/room-" ++ numeral k) (codes "{\"$metadata\":{\"$model\":\"dtmi:demo:Room;1\"}}")

abbrev pub put_sensor : ℕ → Request
put_sensor k = put (codes "/digitaltwins/sensor-" ++ numeral k) (codes "{\"$metadata\":{\"$model\":\"dtmi:demo:Sensor;1\"},\"reading\":" ++ (reading k ++ codes "}"))

-- ---- the relationships: a room has its sensor, and contains the next room
abbrev pub link_path : ℕ → List ℕ → List ℕ
link_path k id = codes "/digitaltwins/room-" ++ (numeral k ++ (codes "/relationships/" ++ (id ++ numeral k)))

abbrev pub put_has : ℕ → Request
put_has k = put (link_path k (codes "h-")) (codes "{\"$targetId\":\"sensor-" ++ (numeral k ++ codes "\",\"$relationshipName\":\"hasSensor\"}"))

abbrev pub put_contains : ℕ → Request
put_contains k = put (link_path k (codes "c-")) (codes "{\"$targetId\":\"room-" ++ (numeral (k + 1) ++ codes "\",\"$relationshipName\":\"contains\"}"))

-- ---- all
-- The twins of the first rooms.
abbrev pub twin_requests : ℕ → List Request
twin_requests zero = []
twin_requests (suc k) = twin_requests k ++ put_room (suc k) ∷ put_sensor (suc k) ∷ []

-- The last of n rooms contains no other.
abbrev pub next_requests : ℕ → ℕ → List Request
next_requests n k = if nat_lt k n then put_contains k ∷ [] else []

-- The relationships of the first ones of n rooms.
abbrev pub link_requests : ℕ → ℕ → List Request
link_requests n zero = []
link_requests n (suc k) = link_requests n k ++ put_has (suc k) ∷ next_requests n (suc k)

abbrev pub requests : ℕ → List Request
requests n = post_models ∷ (twin_requests n ++ link_requests n n)
