pub mod Migration
