use Rattle.std.proofs.Common.{◌≡◌, ◌+◌, map, take}
use Rattle.words.specs.Words.{payload_of}
use Rattle.rules.specs.Descents.{within}
use Rattle.paths.specs.Paths.{path_of}
use Rattle.paths.proofs.descend.under_frames.Given as goal

abbrev pub invariant-loop-word : goal.invariant-loop-word
invariant-loop-word l = record {
  framed : path_of l.path ≡ within (map payload_of (take l.word-index l.words)) (path_of l.initial.path);
  count : l.path.frames.count ≡ l.initial.path.frames.count + l.word-index;
}
