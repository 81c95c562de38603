use Rattle.std.proofs.Common.{◌≡◌, ◌≤◌, length, take, drop}
use Rattle.kb_folder.specs.Folder.{Stays, bytes_in}
use Rattle.kb_folder.specs.Lasting.{Looks}
use Rattle.kb_folder.specs.Told.{calls_of, contents_of}
use Rattle.kb_folder.proofs.host_folder.read_whole.Given as goal

-- what was read is within the buffer, and is the file's
abbrev pub invariant-loop : goal.invariant-loop
invariant-loop l = record {
  within : l.read ≤ length l.buffer;
  room : length l.buffer ≡ length l.fn.buffer;
  looks : Looks (calls_of l.fn.history) (calls_of l.history);
  stays : Stays (contents_of (calls_of l.fn.history)) (contents_of (calls_of l.history));
  bytes : (contents_of (calls_of l.history)).honest → take l.read l.buffer ≡ take l.read (drop l.at (bytes_in (contents_of (calls_of l.fn.history)) l.file.number));
}
