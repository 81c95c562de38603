-- A host and a port, as a text and a number.
use Rattle.std.specs.Prelude.{ℕ, List, string_bytes}
use Rattle.kb_settings.specs.declared.endpoint.Endpoint.{Endpoint}

abbrev pub host_and_port : Endpoint → List ℕ × ℕ
host_and_port e = (string_bytes e.host, e.port)
