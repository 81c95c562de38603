use Rattle.std.proofs.Common.{◌≡◌, ◌++◌, ℕ, List, append_assoc, codes, subst, sym}
use Rattle.std.specs.Prelude.{IfOk, string_bytes}
use Rattle.kbroker.proofs.listening.listening_line.Goals as goal

-- the words of the line, one behind the other
words : (addresses version folder : List ℕ)
    → codes "listening on " ++ (addresses ++ (codes ": kbroker " ++ (version ++ (codes ", data in " ++ (folder ++ codes "\n")))))
    ≡ codes "listening on " ++ addresses ++ codes ": kbroker " ++ version ++ codes ", data in " ++ folder ++ codes "\n"
words addresses version folder = sym (simp append_assoc)

pub returns : goal.returns
returns c =
    subst (λ x. IfOk c.format.result (λ line. string_bytes line ≡ x)) (words c.args.addresses.now c.args.version.now c.args.folder.now) c.format.ensures.ok
