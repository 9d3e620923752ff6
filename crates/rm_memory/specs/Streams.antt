-- A source and a sink in memory.
use Rattle.std.specs.Prelude.{ℕ, ◌+◌, ◌≤◌, Bool, List, drop, vec_len, vec_capacity}
use Rattle.rm_memory.specs.declared.streams.MemSource.{MemSource}
use Rattle.rm_memory.specs.declared.streams.MemSink.{MemSink}
use Rattle.rm_memory.specs.Calls.{lists}

-- the bytes that are left
abbrev pub left_in : MemSource → List ℕ
left_in source = drop source.at source.bytes.items

-- the n-th read from now is listed, from 1
abbrev pub source_lists : MemSource → ℕ → Bool
source_lists source = lists source.fails.items

-- the bytes that were taken
abbrev pub taken_by : MemSink → List ℕ
taken_by sink = sink.bytes.items

-- the n-th write from now is listed, from 1
abbrev pub sink_lists : MemSink → ℕ → Bool
sink_lists sink = lists sink.fails.items

-- a write of `len` bytes takes no memory
abbrev pub HasRoomIn : MemSink → ℕ → Type 0
HasRoomIn sink len = vec_len sink.bytes + len ≤ vec_capacity sink.bytes
