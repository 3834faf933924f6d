-- What a sink in memory shows of its fields.
use Rattle.std.specs.Prelude.{◌-◌, take, vec_len}
use Rattle.robin_io.specs.SinkView.{SinkView}
use Rattle.robin_io.specs.declared.mem_sink.MemSink.TheInside.{Inside}

abbrev pub sink_view : Inside → SinkView
sink_view s = record {
  written = take s.len s.bytes.items;
  room = vec_len s.bytes - s.len;
  piece = s.piece;
  faults = s.faults;
  plan = s.plan.failing.items;
  calls = s.plan.calls;
}
