-- Whose the request is that stands in front of a connection's unread bytes.
use Rattle.std.proofs.Common.{◌≡◌, ◌<◌, ℕ, ℤ, List, length, Some, true, false, refl, sym, ap, ◌∙◌}
use Rattle.kb_api_group.specs.Frames.{Front, Whole, Partial, TooSmall, TooLarge, front}
use Rattle.kb_api_group.specs.FrameStream.{answer, behind}
use Rattle.kb_api_group.specs.declared.frames.Next.{Next}
use Rattle.kb_api_group.specs.declared.frames.Next.TheVariants as answers
use Rattle.kb_api_group.specs.declared.api_versions.ApiVersion.{ApiVersion}
use Rattle.kb_tenant_api.specs.Hosted.{Kept}
use Rattle.kb_isolation_spec.specs.declared.head.Head.{Head}
use Rattle.kb_isolation_spec.specs.Requests.{Asked, Versions, OtherVersions, Handshake, Authenticate, Another, Malformed, Request, request}
use Rattle.kb_isolation_spec.specs.Session.{Session, in_front}
use Rattle.kb_isolation_spec.specs.Greeting.{Setup, for_tenant}
use Rattle.kb_isolation_spec.specs.Machine.{after_turn, served_at, served_by, kept_by_turn, kept_at, kept_by}
use Rattle.kb_isolation_spec.proofs.Laws.{front-rest}
use Rattle.kb_connection.specs.declared.request.Asked.{Asked as Read}
use Rattle.kb_connection.specs.declared.request.Asked.TheVariants as asked
use Rattle.kb_connection.specs.declared.request.Request.{Request as ReadRequest}
use Rattle.kb_connection.specs.View.{asked_of, request_of, without_front}
use Rattle.kb_connection.specs.Fronts.{IsOwn, IsAsked, is_tenants, is_tenants_at, asked_under, asked_at, head_at}

-- 1. A matter of the connection alone

kept_own : (setup : Setup) (kept : Kept) (clock n : ℕ) (a : Asked) → is_tenants a ≡ false → kept_by setup kept clock n a ≡ kept
kept_own setup kept clock n Versions h = refl
kept_own setup kept clock n OtherVersions h = refl
kept_own setup kept clock n (Handshake version mechanism) h = refl
kept_own setup kept clock n (Authenticate message) h = refl
kept_own setup kept clock n (Another key version body) h = cc
kept_own setup kept clock n Malformed h = refl

kept_own_at : (setup : Setup) (kept : Kept) (clock n : ℕ) (f : Front) → is_tenants_at setup.versions f ≡ false → kept_at setup kept clock n f ≡ kept
kept_own_at setup kept clock n (Whole frame rest) h = kept_own setup kept clock n (request setup.versions frame).asked h
kept_own_at setup kept clock n Partial h = refl
kept_own_at setup kept clock n TooSmall h = refl
kept_own_at setup kept clock n TooLarge h = refl

is_own : (setup : Setup) (s : Session) → is_tenants_at setup.versions (in_front s) ≡ false → IsOwn setup s
unfolding kept_by_turn
is_own setup s h = record { own = h; put = λ tenant kept clock n. kept_own_at (for_tenant setup tenant) kept clock n (in_front s) h }

-- no whole frame stands in front
unless_frame : (versions : List ApiVersion) (next : Next) (f : Front) → next ≡ answer f → ((frame : List ℕ) → next ≡ answers.Frame frame → ⊥) → is_tenants_at versions f ≡ false
unless_frame versions next (Whole frame rest) e none = absurd (none frame e)
unless_frame versions next Partial e none = refl
unless_frame versions next TooSmall e none = refl
unless_frame versions next TooLarge e none = refl

pub own_unless_frame : (setup : Setup) (s : Session) (f : Front) (next : Next) → f ≡ in_front s → next ≡ answer f → ((frame : List ℕ) → next ≡ answers.Frame frame → ⊥) → IsOwn setup s
own_unless_frame setup s f next same e none = is_own setup s (unless_frame setup.versions next (in_front s) (e ∙ ap answer same) none)

-- what a frame asks is known by the frame
at_frame : (versions : List ApiVersion) (bytes : List ℕ) (a : Asked) (f : Front) → answers.Frame bytes ≡ answer f → (request versions bytes).asked ≡ a → is_tenants_at versions f ≡ is_tenants a
at_frame versions bytes a (Whole frame rest) e is = let same : bytes ≡ frame = cc in ap is_tenants (sym (ap (λ b. (request versions b).asked) same) ∙ is)
at_frame versions bytes a Partial e is = cc
at_frame versions bytes a TooSmall e is = cc
at_frame versions bytes a TooLarge e is = cc

unless_another : (a : Read) → ((key version : ℤ) (body : List ℕ) → a ≡ asked.Another key version body → ⊥) → is_tenants (asked_of a) ≡ false
unless_another asked.Versions none = refl
unless_another asked.OtherVersions none = refl
unless_another (asked.Handshake version mechanism) none = refl
unless_another (asked.Authenticate message) none = refl
unless_another (asked.Another key version body) none = absurd (none key version body refl)
unless_another asked.Malformed none = refl

-- the frame in front asks nothing of the tenant
pub own_unless_another : (setup : Setup) (s : Session) (f : Front) (frame bytes : List ℕ) (r : ReadRequest) → f ≡ in_front s → answers.Frame frame ≡ answer f → bytes ≡ frame → request_of r ≡ request setup.versions bytes → ((key version : ℤ) (body : List ℕ) → r.asked ≡ asked.Another key version body → ⊥) → IsOwn setup s
own_unless_another setup s f frame bytes r same e read is none =
    let stands : answers.Frame bytes ≡ answer (in_front s) = ap answers.Frame read ∙ e ∙ ap answer same in
    is_own setup s (at_frame setup.versions bytes (asked_of r.asked) (in_front s) stands (sym (ap (λ (q : Request). q.asked) is)) ∙ unless_another r.asked none)

-- and so what it asks is served without the tenant
pub own_frame : (setup : Setup) (s : Session) (f : Front) (frame bytes : List ℕ) → f ≡ in_front s → answers.Frame frame ≡ answer f → bytes ≡ frame → IsOwn setup s → is_tenants (request setup.versions bytes).asked ≡ false
own_frame setup s f frame bytes same e read own = sym (at_frame setup.versions bytes (request setup.versions bytes).asked (in_front s) (ap answers.Frame read ∙ e ∙ ap answer same) refl) ∙ own.own

-- 2. A request of the tenant

served_whole : (setup : Setup) (kept : Kept) (clock n : ℕ) (s : Session) (bytes : List ℕ) (f : Front) → answers.Frame bytes ≡ answer f → served_at setup kept clock n s f ≡ served_by setup kept clock n (request setup.versions bytes).head (request setup.versions bytes).asked (record s { unread = behind f s.unread })
served_whole setup kept clock n s bytes (Whole frame rest) e = let same : frame ≡ bytes = cc in ap (λ x. served_by setup kept clock n (request setup.versions x).head (request setup.versions x).asked (record s { unread = rest })) same
served_whole setup kept clock n s bytes Partial e = cc
served_whole setup kept clock n s bytes TooSmall e = cc
served_whole setup kept clock n s bytes TooLarge e = cc

kept_whole : (setup : Setup) (kept : Kept) (clock n : ℕ) (bytes : List ℕ) (f : Front) → answers.Frame bytes ≡ answer f → kept_at setup kept clock n f ≡ kept_by setup kept clock n (request setup.versions bytes).asked
kept_whole setup kept clock n bytes (Whole frame rest) e = let same : frame ≡ bytes = cc in ap (λ x. kept_by setup kept clock n (request setup.versions x).asked) same
kept_whole setup kept clock n bytes Partial e = cc
kept_whole setup kept clock n bytes TooSmall e = cc
kept_whole setup kept clock n bytes TooLarge e = cc

asked_whole : (versions : List ApiVersion) (bytes : List ℕ) (f : Front) → answers.Frame bytes ≡ answer f → asked_at versions f ≡ asked_under (request versions bytes).head (request versions bytes).asked
asked_whole versions bytes (Whole frame rest) e = let same : frame ≡ bytes = cc in ap (λ x. asked_under (request versions x).head (request versions x).asked) same
asked_whole versions bytes Partial e = cc
asked_whole versions bytes TooSmall e = cc
asked_whole versions bytes TooLarge e = cc

head_whole : (versions : List ApiVersion) (bytes : List ℕ) (f : Front) → answers.Frame bytes ≡ answer f → head_at versions f ≡ (request versions bytes).head
head_whole versions bytes (Whole frame rest) e = let same : frame ≡ bytes = cc in ap (λ x. (request versions x).head) same
head_whole versions bytes Partial e = cc
head_whole versions bytes TooSmall e = cc
head_whole versions bytes TooLarge e = cc

is_asked : (setup : Setup) (s : Session) (bytes : List ℕ) (key version : ℤ) (head : Head) (body : List ℕ) → answers.Frame bytes ≡ answer (in_front s) → request setup.versions bytes ≡ record { head = head; asked = Another key version body } → IsAsked setup s key version head body
unfolding after_turn served_by kept_by_turn
is_asked setup s bytes key version head body e is = record {
  tenants = at_frame setup.versions bytes (Another key version body) (in_front s) e (ap (λ (q : Request). q.asked) is);
  asked = asked_whole setup.versions bytes (in_front s) e ∙ ap (λ (q : Request). asked_under q.head q.asked) is;
  served = λ tenant kept clock n. served_whole (for_tenant setup tenant) kept clock n s bytes (in_front s) e ∙ ap (λ (q : Request). served_by (for_tenant setup tenant) kept clock n q.head q.asked (without_front s)) is;
  put = λ tenant kept clock n. kept_whole (for_tenant setup tenant) kept clock n bytes (in_front s) e ∙ ap (λ (q : Request). kept_by (for_tenant setup tenant) kept clock n q.asked) is;
}

-- the frame in front asks something of the tenant, and this is handed out
pub is_handed : (setup : Setup) (s : Session) (f : Front) (frame bytes : List ℕ) (r : ReadRequest) (key version key_out version_out : ℤ) (body body_out : List ℕ) → f ≡ in_front s → answers.Frame frame ≡ answer f → bytes ≡ frame → request_of r ≡ request setup.versions bytes → r.asked ≡ asked.Another key version body → key_out ≡ key → version_out ≡ version → body_out ≡ body → IsAsked setup s key_out version_out (head_at setup.versions (in_front s)) body_out
is_handed setup s f frame bytes r key version key_out version_out body body_out same e read is another k v b =
    let stands : answers.Frame bytes ≡ answer (in_front s) = ap answers.Frame read ∙ e ∙ ap answer same in
    let asks : asked_of r.asked ≡ Another key_out version_out body_out = ap asked_of another ∙ ap (λ x. Another x version body) (sym k) ∙ ap (λ x. Another key_out x body) (sym v) ∙ ap (λ x. Another key_out version_out x) (sym b) in
    let head : r.head ≡ head_at setup.versions (in_front s) = ap (λ (q : Request). q.head) is ∙ sym (head_whole setup.versions bytes (in_front s) stands) in
    let first : request setup.versions bytes ≡ record { head = head_at setup.versions (in_front s); asked = asked_of r.asked } = sym is ∙ ap (λ x. record { head = x; asked = asked_of r.asked }) head in
    is_asked setup s bytes key_out version_out (head_at setup.versions (in_front s)) body_out stands (first ∙ ap (λ x. record { head = head_at setup.versions (in_front s); asked = x }) asks)

-- and under this number
pub is_numbered : (setup : Setup) (s : Session) (f : Front) (frame bytes : List ℕ) (r : ReadRequest) (id : ℤ) → f ≡ in_front s → answers.Frame frame ≡ answer f → bytes ≡ frame → request_of r ≡ request setup.versions bytes → id ≡ r.head.correlation_id → id ≡ (head_at setup.versions (in_front s)).correlation_id
is_numbered setup s f frame bytes r id same e read is number =
    let stands : answers.Frame bytes ≡ answer (in_front s) = ap answers.Frame read ∙ e ∙ ap answer same in
    number ∙ ap (λ (q : Request). q.head.correlation_id) is ∙ ap (λ (h : Head). h.correlation_id) (sym (head_whole setup.versions bytes (in_front s) stands))

-- what is kept of a tenant's request for its reply
under_head : (head kept : Head) (a : Asked) (key version : ℤ) (body : List ℕ) → asked_under head a ≡ Some (kept, key, version, body) → head ≡ kept
under_head head kept Versions key version body e = cc
under_head head kept OtherVersions key version body e = cc
under_head head kept (Handshake v m) key version body e = cc
under_head head kept (Authenticate m) key version body e = cc
under_head head kept (Another k v b) key version body e =
    let both : (head, k, v, b) ≡ (kept, key, version, body) = cc in ap (λ (q : Head × ℤ × ℤ × List ℕ). q.0) both
under_head head kept Malformed key version body e = cc

head_at_is : (versions : List ApiVersion) (f : Front) (key version : ℤ) (head : Head) (body : List ℕ) → asked_at versions f ≡ Some (head, key, version, body) → head_at versions f ≡ head
head_at_is versions (Whole frame rest) key version head body e = under_head (request versions frame).head head (request versions frame).asked key version body e
head_at_is versions Partial key version head body e = cc
head_at_is versions TooSmall key version head body e = cc
head_at_is versions TooLarge key version head body e = cc

pub head_asked : (setup : Setup) (s : Session) (key version : ℤ) (head : Head) (body : List ℕ) → IsAsked setup s key version head body → head_at setup.versions (in_front s) ≡ head
head_asked setup s key version head body h = head_at_is setup.versions (in_front s) key version head body h.asked

-- 3. A request of the tenant takes bytes when it is left behind

fewer : (versions : List ApiVersion) (limit : ℕ) (unread : List ℕ) (f : Front) → front limit unread ≡ f → is_tenants_at versions f ≡ true → length (behind f unread) < length unread
fewer versions limit unread (Whole frame rest) e h = front-rest limit unread frame rest e
fewer versions limit unread Partial e h = cc
fewer versions limit unread TooSmall e h = cc
fewer versions limit unread TooLarge e h = cc

pub fewer-behind : (versions : List ApiVersion) (s : Session) → is_tenants_at versions (in_front s) ≡ true → length (behind (in_front s) s.unread) < length s.unread
fewer-behind versions s h = fewer versions s.limit s.unread (in_front s) refl h
