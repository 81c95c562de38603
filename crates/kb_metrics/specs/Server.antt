-- What is said of the server and of its process.
use Rattle.std.specs.Prelude.{ℕ, List, [], ◌∷◌, ◌++◌, codes, Option, Some}
use Rattle.std.specs.Option.{option_map}
use Rattle.std.specs.List.{flat_map}
use Rattle.kb_metrics.specs.Text.{FigureText, HeadText, counter_head, figure_text, gauge_head, head_text, rows_text, sample_text}
use Rattle.kb_metrics.specs.declared.server.Cause.{Cause}
use Rattle.kb_metrics.specs.declared.server.Closed.{Closed}
use Rattle.kb_metrics.specs.declared.server.ServerGauges.{ServerGauges}
use Rattle.kb_metrics.specs.declared.server.ProcessGauges.{ProcessGauges}
use Rattle.kb_metrics.specs.declared.text.Value.TheVariants.{Whole, Thousandths, Millionths}

abbrev pub gauge : List ℕ → List ℕ → ℕ → FigureText
gauge name help n = record { head = gauge_head name help; value = Some (Whole n) }

abbrev pub counter : List ℕ → List ℕ → ℕ → FigureText
counter name help n = record { head = counter_head name help; value = Some (Whole n) }

-- a gauge that may not be known
abbrev pub known_gauge : List ℕ → List ℕ → Option ℕ → FigureText
known_gauge name help n = record { head = gauge_head name help; value = option_map Whole n }

-- connections, sockets and their bytes
unfoldable pub socket_figures : ServerGauges → List FigureText
socket_figures s =
    gauge (codes "kbroker_strangers") (codes "Open connections without a login.") s.strangers
    ∷ gauge (codes "kbroker_sockets") (codes "Open sockets, those without a login among them.") s.sockets
    ∷ gauge (codes "kbroker_sockets_limit") (codes "Sockets that may be open at a time.") s.sockets_limit
    ∷ counter (codes "kbroker_sockets_accepted_total") (codes "Sockets that were accepted, also those that were closed at once.") s.accepted
    ∷ counter (codes "kbroker_read_bytes_total") (codes "Bytes that were read from sockets.") s.read_bytes
    ∷ counter (codes "kbroker_written_bytes_total") (codes "Bytes that were written to sockets.") s.written_bytes ∷ []

-- what failed, and how long a turn took
unfoldable pub trouble_figures : ServerGauges → List FigureText
trouble_figures s =
    counter (codes "kbroker_logins_failed_total") (codes "Logins that failed.") s.logins_failed
    ∷ counter (codes "kbroker_refusals_before_login_total") (codes "Calls that were refused for connections without a login.") s.refusals_before_login
    ∷ counter (codes "kbroker_store_failures_total") (codes "Calls that the store refused.") s.store_failures
    ∷ known_gauge (codes "kbroker_stray_files") (codes "Files of the folder that are of no log and are left alone.") s.stray_files
    ∷ record {
      head = gauge_head (codes "kbroker_turn_seconds_max") (codes "The longest turn since the last page.");
      value = Some (Millionths s.turn_micros_max);
    } ∷ []

-- how many sockets were closed for a cause
abbrev pub cause_text : List ℕ → List ℕ × ℕ → List ℕ
cause_text name c = sample_text name (codes "why", c.0) [] c.1

abbrev pub cause_of : Cause → List ℕ × ℕ
cause_of c = (c.name.now, c.count)

unfoldable pub causes : Closed → List (List ℕ × ℕ)
causes c =
    (codes "no_place", c.no_place) ∷ (codes "no_login", c.no_login) ∷ (codes "unread_reply", c.unread_reply) ∷ (codes "idle", c.idle)
    ∷ (codes "slow_request", c.slow_request) ∷ (codes "limit", c.limit) ∷ []

-- the sockets that were closed, with a sample for each cause
abbrev pub closed_head : HeadText
closed_head = counter_head (codes "kbroker_sockets_closed_total") (codes "Sockets that the broker closed, by cause.")

abbrev pub closed_text : Closed → List ℕ
closed_text c = rows_text closed_head (cause_text closed_head.name) (causes c)

-- all that is said of the server
abbrev pub server_text : ServerGauges → List ℕ
server_text s = flat_map figure_text (socket_figures s) ++ flat_map figure_text (trouble_figures s) ++ closed_text s.closed

-- a family that tells a text, as a label of a sample that is 1
abbrev pub info_text : HeadText → List ℕ × List ℕ → List ℕ
info_text head label = head_text head ++ sample_text head.name label [] 1

abbrev pub version_text : List ℕ → List ℕ
version_text version = info_text (gauge_head (codes "kbroker_build_info") (codes "The version that runs.")) (codes "version", version)

-- the time of processors, in milliseconds
abbrev pub cpu_figure : Option ℕ → FigureText
cpu_figure millis = record {
  head = counter_head (codes "process_cpu_seconds_total") (codes "Time of processors that the process took.");
  value = option_map Thousandths millis;
}

unfoldable pub process_figures : ProcessGauges → List FigureText
process_figures p =
    gauge (codes "process_start_time_seconds") (codes "When the broker began to serve, in seconds since the beginning of 1970.") p.start_seconds
    ∷ known_gauge (codes "process_resident_memory_bytes") (codes "Memory of the process.") p.resident_bytes
    ∷ known_gauge (codes "process_open_fds") (codes "Open files of the process.") p.open_fds
    ∷ known_gauge (codes "process_max_fds") (codes "Files that the process may have open.") p.max_fds
    ∷ cpu_figure p.cpu_millis ∷ []

-- all that is said of the process
abbrev pub process_text : ProcessGauges → List ℕ
process_text p = version_text p.version.now ++ flat_map figure_text (process_figures p)
